-- On a true map the lowest set bits lead to the lowest free position, so that a take finds one wherever there is one. Assumes nothing.
use mathlib.Core.Path.{◌≡◌, refl, sym, ap, ◌∙◌}
use mathlib.Core.Bool.{true, true≢false}
use mathlib.Core.List.{List}
use Prim.Native.Nat.{ℕ, zero, suc, ◌+◌, ◌*◌, ◌<◌}
use native.Mathlib.Nat.{zero-add, zero-mul, sub-zero}
use native.Mathlib.Decide.{dec_lt}
use native.Mathlib.Omega.{arith}
use borrow.Author.Tests.{lt-ltb, le-ltb}
use Rattle.words.specs.Search.{first_from}
use Rattle.words.specs.Bits.{bit, lowest_bit}
use Rattle.words.specs.Sizes.{cap}
use Rattle.words.specs.Tree.{Fits, own, child, free?, true?}
use Rattle.words.specs.Run.{next_in}
use Rattle.words.specs.Take.{lowest}
use Rattle.words.proofs.Search.{First, first-is, is-first, first-ext}
use Rattle.words.proofs.Bits.{no-bits}
use Rattle.look.proofs.Nexts.{next-hit}
use Rattle.words.proofs.Truth.{fits-child, some-no, true-is, live, own-some, free-leaf}

-- the lowest free position of a map, and its positions where there is none
abbrev pub first_free : ℕ → List ℕ → ℕ
first_free k s = first_from (free? k s) 0 (cap k)

-- it is what a search finds
free-first : (k : ℕ) (s : List ℕ) → First (free? k s) 0 (cap k) (first_free k s)
free-first k s = first-is (free? k s) 0 (cap k) (cap k) (zero-add (cap k))

module _ (k : ℕ) (s : List ℕ) (h : true? k s ≡ true) where
  -- the own word of a true map says whether there is one
  pub free-none : own s ≡ 0 → first_free k s ≡ cap k
  free-none z = is-first (free? k s) 0 (cap k) (cap k) (cap k) (zero-add (cap k)) (record {
    from = omega arith;
    upto = omega arith;
    here = λ l. absurd (omega arith);
    before = λ p _ l. free-leaf k s p h l ∙ live k s p h z l;
  })

  pub free-some : Fits s → (own s ≡ 0 → ⊥) → first_free k s < cap k
  free-some f ne =
      let p = own-some k s h f ne in
      elim (dec_lt (first_free k s) (cap k)) [
        | yes l ↦ l
        | no l ↦ absurd (true≢false (sym p.2 ∙ sym (free-leaf k s p.0 h p.1) ∙ (free-first k s).before p.0 (omega arith) (omega (arith, p.1))))
      ]

-- the search passes the children before the lowest set bit's, and ends in that one
node-first : (k : ℕ) (s : List ℕ) (i : ℕ) → i ≡ lowest_bit (own s) → i < 16 → first_free k (child k s i) < cap k
    → first_free (suc k) s ≡ i * cap k + first_free k (child k s i)
node-first k s i e l m =
    let h : First (bit (own s)) 0 16 i = rw e (first-is (bit (own s)) 0 16 16 refl) in
    let below : next_in (free? k (child k s i)) (cap k) 0 < cap k = rw (from-zero k (child k s i)) m in
    sym (from-zero (suc k) s) ∙ rw zero-mul at (next-hit k s h l below) ∙ ap (λ (q : ℕ). i * cap k + q) (from-zero k (child k s i))
  where
    from-zero : (j : ℕ) (c : List ℕ) → next_in (free? j c) (cap j) 0 ≡ first_free j c
    from-zero j c = ap (first_from (free? j c) 0) (sub-zero (cap j))

-- where the lowest set bits lead to a position it is the lowest free one
pub lowest-first : (k : ℕ) (s : List ℕ) → lowest k s < cap k → lowest k s ≡ first_free k s
unfolding lowest free? cap
lowest-first zero s m = first-ext (bit (own s)) (free? zero s) 0 16 (λ q l u. refl)
lowest-first (suc k) s m =
    let i = lowest_bit (own s) in
    let q = lowest k (child k s i) in
    elim (dec_lt i 16) [
      | yes l ↦ elim (dec_lt q (cap k)) [
        | yes n ↦
            let e = lowest-first k (child k s i) n in
            rw (lt-ltb i 16 l, lt-ltb q (cap k) n, e) (sym (node-first k s i refl l (rw (← e) n)))
        | no n ↦ absurd (omega (arith, rw (lt-ltb i 16 l, le-ltb q (cap k) (omega arith)) at m))
      ]
      | no l ↦ absurd (omega (arith, rw (le-ltb i 16 (omega arith)) at m))
    ]

-- the lowest set bits of a true map lead to it
pub lowest-free : (k : ℕ) (s : List ℕ) → true? k s ≡ true → Fits s → lowest k s ≡ first_free k s
unfolding lowest free? cap
lowest-free zero s h f = first-ext (bit (own s)) (free? zero s) 0 16 (λ q l u. refl)
lowest-free (suc k) s h f =
    let i = lowest_bit (own s) in
    let t = first-is (bit (own s)) 0 16 16 refl in
    elim (dec_lt i 16) [
      | yes l ↦
          let r = true-is k s h i l in
          let c = child k s i in
          let ne : own c ≡ 0 → ⊥ = λ z. true≢false (sym (t.here l) ∙ r.0 ∙ some-no (own c) z) in
          let fc = fits-child k s i f in
          let m = free-some k c r.1 fc ne in
          rw (lt-ltb i 16 l, lowest-free k c r.1 fc, lt-ltb (first_free k c) (cap k) m)
          (sym (node-first k s i refl l m))
      | no l ↦ rw (le-ltb i 16 (omega arith))
          (sym (free-none (suc k) s h (no-bits 16 (own s) (f 0) (λ j m. t.before j (omega arith) (omega arith)))))
    ]
