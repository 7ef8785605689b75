-- Demand 2: on a true map each call is the one on the plain set of its free positions, and leaves a true map. Assumes nothing.
use mathlib.Core.Path.{◌≡◌, refl, sym, ap, ap₂, ◌∙◌}
use mathlib.Core.Bool.{Bool, true, false, cond, not, ◌&&◌, ◌||◌}
use mathlib.Core.Logic.{⊎_elim}
use mathlib.Core.List.{List}
use Prim.Native.Nat.{ℕ, ◌+◌, ◌-◌, ◌≤◌, ◌<◌}
use native.Mathlib.Nat.{sub-zero}
use native.Mathlib.Decide.{ℕ_discrete}
use native.Mathlib.Omega.{arith}
use lib.Dec.{eqb, leb, ltb}
use lib.ListN.{length}
use borrow.Author.Tests.{eq-eqb, ne_eqb, lt-ltb, le-ltb, le-leb, lt-leb, ltb-false, leb-false}
use Rattle.words.specs.declared.kind.Change.{Change}
use Rattle.words.specs.declared.kind.Change.TheVariants.{Insert, Remove}
use Rattle.std.specs.Prelude.{Option, Some, None}
use Rattle.words.specs.Search.{first_from}
use Rattle.words.specs.Bits.{digit, within}
use Rattle.words.specs.Sizes.{cap, level_of}
use Rattle.words.specs.Tree.{Fits, own, leaf?, free?, true?}
use Rattle.change.specs.Change.{change}
use Rattle.change.specs.Single.{single}
use Rattle.change.specs.GiveBack.{first_leaf, give_back}
use Rattle.bitmap.specs.Answer.{Said, given, refused, refuse}
use Rattle.bitmap.specs.Calls.{answer, after, settle, alloc_says, run_says, give_says, give_run_says, range_says}
use Rattle.std.proofs.lemmas.Bool.{cases_Bool}
use Rattle.words.proofs.Tests.{none-of}
use Rattle.words.proofs.Search.{first-is}
use Rattle.words.proofs.Levels.{words-level}
use Rattle.bitmap.proofs.Refusals.{given-on}
use Rattle.words.proofs.Truth.{free-leaf}
use Rattle.change.proofs.Changes.{length-change}
use Rattle.change.proofs.TrueWay.{single-change, way-true}
use Rattle.laws.proofs.Effects.{free-change, true-change, fits-change}
use Rattle.look.proofs.LowestFree.{first_free, free-none, free-some, lowest-free}
use Rattle.change.proofs.GiveBacks.{length-give_back}
use Rattle.laws.proofs.FreedRun.{freed_to, first-free, free-give_back, true-give_back, fits-give_back}
use Rattle.bitmap.proofs.Stores.{answer-at, after-at}
use Rattle.laws.specs.Call.{Call, alloc, alloc_contiguous, next, dealloc, dealloc_contiguous, dealloc_contiguous_old, insert, remove, is_empty, test, check, call_says, call_after}
use Rattle.laws.specs.Sets.{Positions, with, without, range, found, lowest_from, run_given, freed_up_to, set_says, settled}
use Rattle.laws.specs.AsSet.{AsSet, StoreAsSet}
use Rattle.bitmap.specs.Maps.{TrueMap, TrueStore}

-- ---- answers that agree as far as they are asked

-- of a position in the map
past : (n p : ℕ) (x y : Said) → (p < n → x ≡ y) → refuse 2 (leb n p) x ≡ refuse 2 (leb n p) y
past n p x y h = ⊎_elim (λ t. rw t) (λ t. rw t (h (leb-false n p t))) (cases_Bool (leb n p))

-- of a range in the map
in-map : (n a b : ℕ) → (ltb b a || ltb n b) ≡ false → (a ≤ b) × (b ≤ n)
in-map n a b e = let r = none-of (ltb b a) (ltb n b) e in (ltb-false b a r.0, ltb-false n b r.1)

in-range : (n a b : ℕ) (x y : Said) → (a ≤ b → b ≤ n → x ≡ y) → range n a b x ≡ range n a b y
in-range n a b x y h = ⊎_elim (λ t. rw t) (λ t. let r = in-map n a b t in rw (t, h r.0 r.1)) (cases_Bool (ltb b a || ltb n b))

-- a range that is given lies in the map
range-given : (n a b v : ℕ) → given v ≡ range n a b (given 0) → (a ≤ b) × (b ≤ n)
range-given n a b v e = in-map n a b (given-on v 2 (ltb b a || ltb n b) (refuse 3 (eqb a b) (given 0)) e).0

-- ---- a test that is changed

put-in : (t b : Bool) → cond t true b ≡ (t || b)
put-in true b = refl
put-in false b = refl

put-out : (t b : Bool) → cond t false b ≡ (not t && b)
put-out true b = refl
put-out false b = refl

-- up to where a give-back gets
freed-up : (a b p : ℕ) → p ≤ b → freed_to a b p ≡ freed_up_to a b p
freed-up a b p l = elim (ℕ_discrete p b) [
  | yes e ↦ rw (eq-eqb p b e, le-ltb p b (omega arith))
  | no ne ↦ rw (ne_eqb p b ne, lt-ltb p b (omega arith))
]

-- ---- a take of a true map says its lowest free position, or refusal 5 where there is none, and never refusal 7

alloc-true : (k : ℕ) (s : List ℕ) → true? k s ≡ true → Fits s → alloc_says k s ≡ refuse 5 (leb (cap k) (first_free k s)) (given (first_free k s))
alloc-true k s h f = elim (ℕ_discrete (own s) 0) [
  | yes z ↦ rw (eq-eqb (own s) 0 z, free-none k s h z, le-leb (cap k) (cap k) (omega arith))
  | no ne ↦ rw (ne_eqb (own s) 0 ne, lowest-free k s h f, lt-leb (cap k) (first_free k s) (free-some k s h f ne))
]

-- ---- each call on a true map

module _ (k : ℕ) (s : List ℕ) (m : TrueMap k s) where
  -- what a call makes of the map settles by its answer, as the set does
  settles : (x y : Said) (made : ℕ → List ℕ) (set : ℕ → Positions) → x ≡ y
      → ((v : ℕ) → given v ≡ x → TrueMap k (made v) × ((p : ℕ) → p < cap k → free? k (made v) p ≡ set v p))
      → TrueMap k (settle x s made) × ((p : ℕ) → p < cap k → free? k (settle x s made) p ≡ settled y (free? k s) set p)
  settles (given v) y made set e h =
      let r = h v refl in
      (r.0, λ p l. r.1 p l ∙ ap (λ (z : Said). settled z (free? k s) set p) e)
  settles (refused n) y made set e h = (m, λ p l. ap (λ (z : Said). settled z (free? k s) set p) e)

  -- positions inserted, or removed
  true-again : (c : Change) (a b : ℕ) → TrueMap k (change c k s a b)
  true-again c a b = record {
    sized = length-change c k s a b m.sized;
    fits = fits-change c k s a b m.fits;
    truth = true-change c k s a b m.sized m.truth;
  }

  inserts : (a b : ℕ) → TrueMap k (change Insert k s a b) × ((p : ℕ) → p < cap k → free? k (change Insert k s a b) p ≡ with (free? k s) a b p)
  inserts a b = (
    true-again Insert a b,
    λ p l. free-change Insert k s a b p m.sized m.truth l ∙ put-in (within a b p) (free? k s p),
  )

  removes : (a b : ℕ) → TrueMap k (change Remove k s a b) × ((p : ℕ) → p < cap k → free? k (change Remove k s a b) p ≡ without (free? k s) a b p)
  removes a b = (
    true-again Remove a b,
    λ p l. free-change Remove k s a b p m.sized m.truth l ∙ put-out (within a b p) (free? k s p),
  )

  -- the lowest free position
  low-free : first_free k s ≡ lowest_from (free? k s) (cap k) 0
  low-free = ap (first_from (free? k s) 0) (sym (sub-zero (cap k)))

  alloc-set : AsSet alloc k s
  alloc-set =
      let e : alloc_says k s ≡ set_says alloc (free? k s) (cap k) = alloc-true k s m.truth m.fits ∙ ap (found (cap k)) low-free in
      let r = settles (alloc_says k s) (set_says alloc (free? k s) (cap k)) (λ p. change Remove k s p (p + 1)) (λ p. without (free? k s) p (p + 1)) e (λ v _. removes v (v + 1)) in
      record { says = e; leaves = r.1; again = r.0 }

  run-says : (base : Option ℕ) (size align : ℕ) → run_says base size align k s ≡ set_says (alloc_contiguous base size align) (free? k s) (cap k)
  run-says None size align = refl
  run-says (Some b) size align = refl

  run-set : (base : Option ℕ) (size align : ℕ) → AsSet (alloc_contiguous base size align) k s
  run-set base size align =
      let e = run-says base size align in
      let r = settles (run_says base size align k s) (set_says (alloc_contiguous base size align) (free? k s) (cap k))
      (λ b. change Remove k s b (b + size)) (λ b. without (free? k s) b (b + size)) e (λ b _. removes b (b + size)) in
      record { says = e; leaves = r.1; again = r.0 }

  next-set : (key : ℕ) → AsSet (next key) k s
  next-set key = record { says = refl; leaves = λ p l. refl; again = m }

  -- the leaf bit
  leaf-free : (p : ℕ) → p < cap k → leaf? k s p ≡ free? k s p
  leaf-free p l = sym (free-leaf k s p m.truth l)

  give-set : (key : ℕ) → AsSet (dealloc key) k s
  give-set key =
      let f = free? k s in
      let e : give_says key k s ≡ set_says (dealloc key) f (cap k) =
      past (cap k) key _ _ (λ l. ap (λ (b : Bool). refuse 6 b (given 0)) (leaf-free key l)) in
      let r = settles (give_says key k s) (set_says (dealloc key) f (cap k)) (λ _. single Insert k s key) (λ _. with f key (key + 1)) e gives in
      record { says = e; leaves = r.1; again = r.0 }
    where
      gives : (v : ℕ) → given v ≡ give_says key k s → TrueMap k (single Insert k s key) × ((p : ℕ) → p < cap k → free? k (single Insert k s key) p ≡ with (free? k s) key (key + 1) p)
      gives v e =
          let l = leb-false (cap k) key (given-on v 2 (leb (cap k) key) _ e).0 in
          rw (single-change Insert k s key (way-true k s key l m.truth)) (inserts key (key + 1))

  -- the first free position of a run
  run-first : (base size : ℕ) → base + size ≤ cap k → first_leaf k s base (base + size) ≡ first_from (free? k s) base size
  run-first base size l =
      let n : base + size - base ≡ size = omega arith in
      first-free k s base (base + size) m.truth (omega arith) l ∙ ap (first_from (free? k s) base) n

  run-given : (base size : ℕ) → give_run_says base size k s ≡ run_given (free? k s) (cap k) base size
  run-given base size =
      let b = base + size in
      in-range (cap k) base b _ _ (λ _ u. ap (λ (x : ℕ). refuse 6 (ltb x b) (given 0)) (run-first base size u))

  give-run-set : (base size : ℕ) → AsSet (dealloc_contiguous base size) k s
  give-run-set base size =
      let e = run-given base size in
      let r = settles (give_run_says base size k s) (run_given (free? k s) (cap k) base size) (λ _. change Insert k s base (base + size))
      (λ _. with (free? k s) base (base + size)) e (λ _ _. inserts base (base + size)) in
      record { says = e; leaves = r.1; again = r.0 }

  -- the crate's way
  gives-back : (base size : ℕ) → base + size ≤ cap k
      → TrueMap k (give_back k s base (base + size))
      × ((p : ℕ) → p < cap k → free? k (give_back k s base (base + size)) p
      ≡ with (free? k s) base (freed_up_to base (base + size) (first_from (free? k s) base size)) p)
  gives-back base size u =
      let b = base + size in
      let f = free? k s in
      let q = first_from f base size in
      let n : b - base ≡ size = omega arith in (
        record {
          sized = length-give_back k s base b m.sized;
          fits = fits-give_back k s base b m.fits;
          truth = true-give_back k s base b m.sized m.truth;
        },
        λ p l. free-give_back k s base b m.truth (omega arith) u m.sized p l
            ∙ ap (λ (x : ℕ). cond (within base (freed_to base b (first_from f base x)) p) true (f p)) n
            ∙ ap (λ (x : ℕ). cond (within base x p) true (f p)) (freed-up base b q (first-is f base size b refl).upto)
            ∙ put-in (within base (freed_up_to base b q) p) (f p),
      )

  give-run-old-set : (base size : ℕ) → AsSet (dealloc_contiguous_old base size) k s
  give-run-old-set base size =
      let b = base + size in
      let f = free? k s in
      let r = settles (range_says base b k s) (range (cap k) base b (given 0)) (λ _. give_back k s base b)
      (λ _. with f base (freed_up_to base b (first_from f base size))) refl
      (λ v e. gives-back base size (range-given (cap k) base b v e).1) in
      record { says = run-given base size; leaves = r.1; again = r.0 }

  insert-set : (a b : ℕ) → AsSet (insert a b) k s
  insert-set a b =
      let r = settles (range_says a b k s) (range (cap k) a b (given 0)) (λ _. change Insert k s a b) (λ _. with (free? k s) a b) refl (λ _ _. inserts a b) in
      record { says = refl; leaves = r.1; again = r.0 }

  remove-set : (a b : ℕ) → AsSet (remove a b) k s
  remove-set a b =
      let r = settles (range_says a b k s) (range (cap k) a b (given 0)) (λ _. change Remove k s a b) (λ _. without (free? k s) a b) refl (λ _ _. removes a b) in
      record { says = refl; leaves = r.1; again = r.0 }

  -- the own word is 0 exactly where there is no lowest free position
  empty-says : eqb (own s) 0 ≡ leb (cap k) (first_free k s)
  empty-says = elim (ℕ_discrete (own s) 0) [
    | yes z ↦ rw (eq-eqb (own s) 0 z, le-leb (cap k) (first_free k s) (omega (arith, free-none k s m.truth z)))
    | no ne ↦ rw (ne_eqb (own s) 0 ne, lt-leb (cap k) (first_free k s) (free-some k s m.truth m.fits ne))
  ]

  empty-set : AsSet is_empty k s
  empty-set = record { says = ap (λ (b : Bool). given (digit b)) (empty-says ∙ ap (leb (cap k)) low-free); leaves = λ p l. refl; again = m }

  test-set : (key : ℕ) → AsSet (test key) k s
  test-set key = record {
    says = past (cap k) key _ _ (λ l. ap (λ (b : Bool). given (digit b)) (leaf-free key l));
    leaves = λ p l. refl;
    again = m;
  }

  check-set : AsSet check k s
  check-set = record { says = ap (λ (b : Bool). given (digit b)) m.truth; leaves = λ p l. refl; again = m }

-- Demand 2. For every call with its numbers, every level k and every true map of it: the call's answer is the one of the plain set F,
-- F afterwards is the set afterwards at every position of the map, and the map is true again.
pub as-set : (c : Call) (k : ℕ) (s : List ℕ) → TrueMap k s → AsSet c k s
as-set alloc k s m = alloc-set k s m
as-set (alloc_contiguous base size align) k s m = run-set k s m base size align
as-set (next key) k s m = next-set k s m key
as-set (dealloc key) k s m = give-set k s m key
as-set (dealloc_contiguous base size) k s m = give-run-set k s m base size
as-set (dealloc_contiguous_old base size) k s m = give-run-old-set k s m base size
as-set (insert a b) k s m = insert-set k s m a b
as-set (remove a b) k s m = remove-set k s m a b
as-set is_empty k s m = empty-set k s m
as-set (test key) k s m = test-set k s m key
as-set check k s m = check-set k s m

-- ---- the same of lent stores

-- a call on a store of a level is the one on the map
module _ (s : List ℕ) (h : level_of (length s) < 7) where
  pub answer-level : (f : ℕ → List ℕ → Said) → answer f s ≡ f (level_of (length s)) s
  answer-level f = sym (answer-at s (level_of (length s)) refl h f)

  pub after-level : (f : ℕ → List ℕ → List ℕ) → after f s ≡ f (level_of (length s)) s
  after-level f = sym (after-at s (level_of (length s)) refl h f)

-- a store that is a true map is one of its level
pub map-of : (s : List ℕ) → TrueStore s → TrueMap (level_of (length s)) s
map-of s h = record { sized = sym (words-level (length s) h.level); fits = h.fits; truth = h.truth }

-- Demand 2 of whole stores. For every call with its numbers and every lent store that is a true map, of any of the seven sizes: the
-- call's answer is the one of the plain set F, F afterwards is the set afterwards at every position, and the store is a true map of
-- that size again.
pub store-as-set : (c : Call) (s : List ℕ) → TrueStore s → StoreAsSet c s
store-as-set c s h = record {
  says = answer-level s h.level (call_says c) ∙ r.says;
  leaves = λ p l. ap₂ (λ (j : ℕ) (t : List ℕ). free? j t p) level-kept is ∙ r.leaves p l;
  again = record { level = rw level-kept h.level; fits = λ i. rw is (r.again.fits i); truth = ap₂ true? level-kept is ∙ r.again.truth };
  size = size-kept;
}
  where
    r : AsSet c (level_of (length s)) s
    r = as-set c (level_of (length s)) s (map-of s h)

    is : after (call_after c) s ≡ call_after c (level_of (length s)) s
    is = after-level s h.level (call_after c)

    size-kept : length (after (call_after c) s) ≡ length s
    size-kept = ap length is ∙ r.again.sized ∙ words-level (length s) h.level

    level-kept : level_of (length (after (call_after c) s)) ≡ level_of (length s)
    level-kept = ap level_of size-kept
