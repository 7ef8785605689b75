-- Two sets of positions, the first inside the second, under the same operation: what the second answers is no higher, and the first
-- stays inside the second. Assumes nothing.
use mathlib.Core.Path.{◌≡◌, refl, sym, ap, ◌∙◌}
use mathlib.Core.Bool.{Bool, true, false, cond, not, ◌&&◌, ◌||◌, or-true, true≢false}
use mathlib.Core.Logic.{⊎_elim}
use Prim.Native.Nat.{ℕ, ◌+◌, ◌-◌, ◌≤◌, ◌<◌}
use native.Mathlib.Decide.{ℕ_discrete}
use native.Mathlib.Omega.{arith}
use lib.Dec.{eqb, leb, ltb}
use borrow.Author.Tests.{leb-true, leb-false, lt-leb, not-true, not-false}
use Rattle.std.specs.Prelude.{Option, Some, None}
use Rattle.words.specs.Search.{all}
use Rattle.words.specs.Bits.{within}
use Rattle.words.specs.Run.{aligned, run?, misfit}
use Rattle.bitmap.specs.Answer.{Said, given, refused, refuse}
use Rattle.std.proofs.lemmas.Bool.{cases_Bool}
use Rattle.words.proofs.Tests.{and-both}
use Rattle.words.proofs.Search.{first-is, first-mono, all-at, all-is}
use Rattle.words.proofs.Within.{within-no, within-yes}
use Rattle.bitmap.proofs.Refusals.{given-on}
use Rattle.laws.specs.Call.{alloc, alloc_contiguous, dealloc}
use Rattle.laws.specs.Sets.{Positions, with, without, found, range, lowest_from, set_says, set_after, settled}
use Rattle.laws.specs.Order.{Op, take, give_back, insert, remove, look_up, call, Inside, NoHigher, Rule}

-- ---- answers

-- the second is refused only where the first is
refuse-order : (m : ℕ) (b c : Bool) (x y : Said) → (b ≡ false → c ≡ false) → NoHigher x y → NoHigher (refuse m b x) (refuse m c y)
refuse-order m b c x y fewer h v e =
    let r = given-on v m b x (sym e) in
    let a = h v (sym r.1) in
    (a.0, rw (fewer r.0) a.1, a.2)

-- both by the same test
refuse-same : (m : ℕ) (b : Bool) (x y : Said) → NoHigher x y → NoHigher (refuse m b x) (refuse m b y)
refuse-same m b x y = refuse-order m b b x y (λ e. e)

-- the lower of two positions
given-order : (p q : ℕ) → q ≤ p → NoHigher (given p) (given q)
given-order p q le v e = let u : p ≡ v = cc in (q, refl, omega arith)

-- what is found sooner is no higher
found-order : (n p q : ℕ) → q ≤ p → NoHigher (found n p) (found n q)
found-order n p q le =
    refuse-order 5 (leb n p) (leb n q) (given p) (given q) (λ e. lt-leb n q (omega (arith, leb-false n p e))) (given-order p q le)

-- ---- sets

-- a give-back puts its position into the set, if it is one of the n: where it is refused with 6, the position is there
give-is : (n key : ℕ) (f : Positions) (q : ℕ) → set_after (dealloc key) f n q ≡ cond (leb n key) (f q) (with f key (key + 1) q)
give-is n key f q =
    ⊎_elim
    (λ t. rw t)
    (λ (t : leb n key ≡ false).
    ⊎_elim (λ (u : f key ≡ true). rw (t, u) (there u)) (λ (u : f key ≡ false). rw (t, u)) (cases_Bool (f key)))
    (cases_Bool (leb n key))
  where
    there : f key ≡ true → f q ≡ with f key (key + 1) q
    there u = elim (ℕ_discrete q key) [
      | yes e ↦ rw (e, u) (sym (or-true (within key (key + 1) key)))
      | no ne ↦ rw (within-no key (key + 1) q (omega arith))
    ]

-- tests that hold where others do
or-more : (a b c : Bool) → (b ≡ true → c ≡ true) → (a || b) ≡ true → (a || c) ≡ true
or-more true b c h e = refl
or-more false b c h e = h e

and-more : (a b c : Bool) → (b ≡ true → c ≡ true) → a && b ≡ true → a && c ≡ true
and-more true b c h e = h e
and-more false b c h e = e

module _ (n : ℕ) (f g : Positions) (h : Inside n f g) where
  -- ---- the answers

  -- a take and a look-up
  next-order : (key : ℕ) → NoHigher (found n (lowest_from f n key)) (found n (lowest_from g n key))
  next-order key = found-order n _ _ (first-mono f g key (n - key) (λ q l u. h q (omega arith)))

  -- an operation
  pub says-order : (o : Op) → Rule o (set_says (call o) f n) (set_says (call o) g n)
  says-order take = next-order 0
  says-order (give_back key) = tt
  says-order (insert a b) = tt
  says-order (remove a b) = tt
  says-order (look_up key) = next-order key

  -- a run in the first is one in the second
  run-more : (size align b : ℕ) → run? f n size align b ≡ true → run? g n size align b ≡ true
  run-more size align b =
      and-more (aligned align b) (leb (b + size) n && all f b size) (leb (b + size) n && all g b size) (λ e.
      let r = and-both (leb (b + size) n) (all f b size) e in
      let le = leb-true (b + size) n r.0 in
      rw r.0 (all-is g b size (λ q l u. h q (omega arith) (all-at f b size r.1 q l u))))

  -- a request for an aligned run
  pub run-order : (base : Option ℕ) (size align : ℕ)
      → NoHigher (set_says (alloc_contiguous base size align) f n) (set_says (alloc_contiguous base size align) g n)
  run-order None size align =
      refuse-same 4 (misfit n align) _ _
      (refuse-same 3 (eqb size 0) _ _
      (found-order n _ _ (first-mono (run? f n size align) (run? g n size align) 0 n (λ b _ _. run-more size align b))))
  run-order (Some b) size align =
      refuse-same 4 (misfit n align || not (aligned align b)) _ _
      (refuse-same 3 (eqb size 0) _ _
      (refuse-same 2 (ltb n (b + size)) _ _
      (refuse-order 5 (not (run? f n size align b)) (not (run? g n size align b)) (given b) (given b)
      (λ e. ap not (run-more size align b (not-false (run? f n size align b) e))) (given-order b b (omega arith)))))

  -- ---- the sets afterwards

  -- the same positions put in, or taken out
  with-inside : (a b : ℕ) → Inside n (with f a b) (with g a b)
  with-inside a b p l = or-more (within a b p) (f p) (g p) (h p l)

  without-inside : (a b : ℕ) → Inside n (without f a b) (without g a b)
  without-inside a b p l = and-more (not (within a b p)) (f p) (g p) (h p l)

  -- after an answer that is the same
  settled-inside : (x : Said) (made new : ℕ → Positions) → ((v : ℕ) → Inside n (made v) (new v))
      → Inside n (settled x f made) (settled x g new)
  settled-inside (given v) made new k = k v
  settled-inside (refused m) made new k = h

  -- the lowest taken out of each: that of the first is the higher, and what is left of the first is above it
  take-inside : Inside n (set_after alloc f n) (set_after alloc g n)
  take-inside q l =
      let i = lowest_from f n 0 in
      let j = lowest_from g n 0 in
      let s = first-is f 0 (n - 0) n (omega arith) in
      let le : j ≤ i = first-mono f g 0 (n - 0) (λ p _ u. h p (omega arith)) in
      let past : f q ≡ true → i ≤ q = λ e.
      let sooner : ¬ (q < i) = λ m. true≢false (sym e ∙ s.before q (omega arith) m) in
      omega arith in
      ⊎_elim
      (λ t. rw t (λ e. absurd (omega (arith, past e, leb-true n i t))))
      (λ t. rw (t, lt-leb n j (omega (arith, leb-false n i t))) (λ e.
      let r = and-both (not (within i (i + 1) q)) (f q) e in
      let other : ¬ (q ≡ i) = λ x.
      true≢false (sym (within-yes i (i + 1) q (omega arith) (omega arith)) ∙ not-true (within i (i + 1) q) r.0) in
      rw (within-no j (j + 1) q (omega (arith, past r.1))) (h q l r.1)))
      (cases_Bool (leb n i))

  -- an operation
  pub after-inside : (o : Op) → Inside n (set_after (call o) f n) (set_after (call o) g n)
  after-inside take = take-inside
  after-inside (give_back key) = λ p l. rw (give-is n key f p, give-is n key g p) (by (leb n key) p l)
    where
      by : (b : Bool) → Inside n (λ p. cond b (f p) (with f key (key + 1) p)) (λ p. cond b (g p) (with g key (key + 1) p))
      by true = h
      by false = with-inside key (key + 1)
  after-inside (insert a b) = settled-inside (range n a b (given 0)) _ _ (λ _. with-inside a b)
  after-inside (remove a b) = settled-inside (range n a b (given 0)) _ _ (λ _. without-inside a b)
  after-inside (look_up key) = h
