-- A single take and a single give-back beside `remove` and `insert` of that one position, and where they stop. Assumes nothing.
use mathlib.Core.Path.{◌≡◌, sym, ap, ◌∙◌}
use mathlib.Core.Bool.{cond}
use mathlib.Core.List.{List}
use Prim.Native.Nat.{ℕ, ◌+◌, ◌≤◌, ◌<◌}
use native.Mathlib.Omega.{arith}
use lib.Dec.{eqb, leb}
use lib.ListN.{length}
use borrow.Author.Tests.{le-ltb, ne_eqb, leb-false}
use Rattle.words.specs.declared.kind.Change.{Change}
use Rattle.words.specs.declared.kind.Change.TheVariants.{Insert, Remove}
use Rattle.words.specs.Sizes.{words, cap, level_of}
use Rattle.words.specs.Tree.{Fits, own, leaf?}
use Rattle.words.specs.Take.{lowest}
use Rattle.change.specs.Change.{change}
use Rattle.change.specs.Single.{single}
use Rattle.bitmap.specs.Answer.{Said, given, refuse}
use Rattle.bitmap.specs.Calls.{answer, after, alloc_says, alloc_after, give_says, give_after, range_after}
use Rattle.bitmap.specs.Maps.{TrueStore}
use Rattle.words.proofs.Levels.{words-level}
use Rattle.change.proofs.TrueWay.{single-change, way-true, way-lowest}
use Rattle.bitmap.proofs.Refusals.{settle-on, given-on}
use Rattle.laws.specs.Call.{alloc, dealloc, insert, remove, call_says, call_after}
use Rattle.laws.specs.Above.{NeitherWay, SameAbove}
use Rattle.laws.proofs.Stops.{single-above}

-- ---- of a map of level k

module _ (k : ℕ) (s : List ℕ) where
  -- a take that gives p: the lowest set bits lead to it
  alloc-led : (p : ℕ) → given p ≡ alloc_says k s → (p < cap k) × (lowest k s ≡ p)
  alloc-led p e =
      let a = given-on p 5 (eqb (own s) 0) (refuse 7 (leb (cap k) (lowest k s)) (given (lowest k s))) e in
      let b = given-on p 7 (leb (cap k) (lowest k s)) (given (lowest k s)) a.1 in
      let is : p ≡ lowest k s = cc b.1 in
      (rw is (leb-false (cap k) (lowest k s) b.0), sym is)

  alloc-is : (p : ℕ) → given p ≡ alloc_says k s → alloc_after k s ≡ change Remove k s p (p + 1)
  alloc-is p e = sym (settle-on (alloc_says k s) p s (λ q. change Remove k s q (q + 1)) e)

  -- so it is a single change, on every map
  alloc-one : (p : ℕ) → given p ≡ alloc_says k s → alloc_after k s ≡ single Remove k s p
  alloc-one p e = let h = alloc-led p e in alloc-is p e ∙ sym (single-change Remove k s p (way-lowest k s p h.0 h.1))

  -- a give-back that succeeds
  give-inside : (key : ℕ) → given 0 ≡ give_says key k s → key < cap k
  give-inside key e = leb-false (cap k) key (given-on 0 2 (leb (cap k) key) (refuse 6 (leaf? k s key) (given 0)) e).0

  give-one : (key : ℕ) → given 0 ≡ give_says key k s → give_after key k s ≡ single Insert k s key
  give-one key e = sym (settle-on (give_says key k s) 0 s (λ _. single Insert k s key) e)

  -- a range of one position of the map
  range-one : (c : Change) (p : ℕ) → p < cap k → range_after c p (p + 1) k s ≡ change c k s p (p + 1)
  range-one c p l = rw (le-ltb (p + 1) p (omega arith), le-ltb (cap k) (p + 1) (omega arith), ne_eqb p (p + 1) (λ z. omega arith))

-- ---- of a lent store

-- a store on which a call gives a value is a map, of which the call gives it
on-map : (f : ℕ → List ℕ → Said) (g : ℕ → List ℕ → List ℕ) (s : List ℕ) (v : ℕ) → answer f s ≡ given v
    → (length s ≡ words (level_of (length s))) × (given v ≡ f (level_of (length s)) s) × (after g s ≡ g (level_of (length s)) s)
unfolding answer after
on-map f g s v e =
    let r = given-on v 1 (leb 7 (level_of (length s))) (f (level_of (length s)) s) (sym e) in
    (sym (words-level (length s) (leb-false 7 (level_of (length s)) r.0)), r.1, rw r.0)

-- On every store, a take that gives p leaves what `remove` of that one position leaves,
pub alloc-removes : (p : ℕ) (s : List ℕ) → answer (call_says alloc) s ≡ given p → after (call_after alloc) s ≡ after (call_after (remove p (p + 1))) s
unfolding after
alloc-removes p s e =
    let k = level_of (length s) in
    let h = on-map alloc_says alloc_after s p e in
    ap (λ (t : List ℕ). cond (leb 7 k) s t) (alloc-is k s p h.1 ∙ sym (range-one k s Remove p (alloc-led k s p h.1).0))

-- and that is the change of request (iii): the leaf bit, and above it the bit of each word that turned.
pub alloc-single : (p : ℕ) (s : List ℕ) → answer (call_says alloc) s ≡ given p → after (call_after alloc) s ≡ single Remove (level_of (length s)) s p
alloc-single p s e = let h = on-map alloc_says alloc_after s p e in h.2 ∙ alloc-one (level_of (length s)) s p h.1

-- On every store, so is the one of a give-back that succeeds.
pub dealloc-single : (key : ℕ) (s : List ℕ) → answer (call_says (dealloc key)) s ≡ given 0 → after (call_after (dealloc key)) s ≡ single Insert (level_of (length s)) s key
dealloc-single key s e = let h = on-map (give_says key) (give_after key) s 0 e in h.2 ∙ give-one (level_of (length s)) s key h.1

-- On a true store it leaves what `insert` of that one position leaves.
pub dealloc-inserts : (key : ℕ) (s : List ℕ) → TrueStore s → answer (call_says (dealloc key)) s ≡ given 0
    → after (call_after (dealloc key)) s ≡ after (call_after (insert key (key + 1))) s
unfolding after
dealloc-inserts key s m e =
    let k = level_of (length s) in
    let h = on-map (give_says key) (give_after key) s 0 e in
    let l = give-inside k s key h.1 in
    ap (λ (t : List ℕ). cond (leb 7 k) s t)
    (give-one k s key h.1 ∙ single-change Insert k s key (way-true k s key l m.truth) ∙ sym (range-one k s Insert key l))

-- On every store, where the word of level j on the way to the position taken went neither way, no word above it differs, and none beside
-- the way.
pub alloc-stops : (p j : ℕ) (s : List ℕ) → Fits s → answer (call_says alloc) s ≡ given p → j ≤ level_of (length s)
    → NeitherWay j (level_of (length s)) p s (after (call_after alloc) s)
    → SameAbove j (level_of (length s)) p s (after (call_after alloc) s)
alloc-stops p j s fits e l n =
    let k = level_of (length s) in
    let h = on-map alloc_says alloc_after s p e in
    let is = alloc-single p s e in
    rw is (single-above Remove k s p j h.0 fits (alloc-led k s p h.1).0 l (λ _. rw is at n))

-- The same of the position given back.
pub dealloc-stops : (key j : ℕ) (s : List ℕ) → Fits s → answer (call_says (dealloc key)) s ≡ given 0 → j ≤ level_of (length s)
    → NeitherWay j (level_of (length s)) key s (after (call_after (dealloc key)) s)
    → SameAbove j (level_of (length s)) key s (after (call_after (dealloc key)) s)
dealloc-stops key j s fits e l n =
    let k = level_of (length s) in
    let h = on-map (give_says key) (give_after key) s 0 e in
    let is = dealloc-single key s e in
    rw is (single-above Insert k s key j h.0 fits (give-inside k s key h.1) l (λ _. rw is at n))
