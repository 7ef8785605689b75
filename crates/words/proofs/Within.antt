-- The numbers from a up to b: whether one is among them, and how such spans fit together. Assumes nothing.
use mathlib.Core.Path.{◌≡◌, sym, ◌∙◌}
use mathlib.Core.Bool.{true, false, and-false, true≢false}
use Prim.Native.Nat.{ℕ, ◌+◌, ◌<◌, ◌≤◌}
use native.Mathlib.Decide.{dec_le, dec_lt, ℕ_discrete}
use native.Mathlib.Omega.{arith}
use lib.Dec.{eqb}
use borrow.Author.Tests.{lt-ltb, le-ltb, le-leb, lt-leb, eq-eqb, ne_eqb}
use Rattle.words.specs.Bits.{within}
use Rattle.words.proofs.Rows.{upd}

pub within-yes : (a b i : ℕ) → a ≤ i → i < b → within a b i ≡ true
within-yes a b i l m = rw (le-leb a i l, lt-ltb i b m)

pub within-no : (a b i : ℕ) → ((a ≤ i) × (i < b) → ⊥) → within a b i ≡ false
within-no a b i f = elim (dec_le a i) [
  | no l ↦ rw (lt-leb a i (omega arith))
  | yes l ↦ elim (dec_lt i b) [
    | no m ↦ rw (le-ltb i b (omega arith), and-false)
    | yes m ↦ absurd (f (l, m))
  ]
]

pub within-true : (a b i : ℕ) → within a b i ≡ true → (a ≤ i) × (i < b)
within-true a b i e = elim (dec_le a i) [
  | no l ↦ absurd (true≢false (sym e ∙ within-no a b i (λ x. l x.0)))
  | yes l ↦ elim (dec_lt i b) [
    | no m ↦ absurd (true≢false (sym e ∙ within-no a b i (λ x. m x.1)))
    | yes m ↦ (l, m)
  ]
]

pub within-iff : (a b i a' b' i' : ℕ) → ((a ≤ i) × (i < b) → (a' ≤ i') × (i' < b')) → ((a' ≤ i') × (i' < b') → (a ≤ i) × (i < b))
    → within a b i ≡ within a' b' i'
within-iff a b i a' b' i' f g = elim (dec_le a i) [
  | no l ↦ within-no a b i (λ x. l x.0) ∙ sym (within-no a' b' i' (λ x. l (g x).0))
  | yes l ↦ elim (dec_lt i b) [
    | no m ↦ within-no a b i (λ x. m x.1) ∙ sym (within-no a' b' i' (λ x. m (g x).1))
    | yes m ↦ within-yes a b i l m ∙ sym (within-yes a' b' i' (f (l, m)).0 (f (l, m)).1)
  ]
]

pub within-none : (a i : ℕ) → within a a i ≡ false
within-none a i = within-no a a i (omega arith)

pub within-now : (a n : ℕ) → within a n n ≡ false
within-now a n = within-no a n n (omega arith)

-- one number
pub within-one : (i j : ℕ) → within i (i + 1) j ≡ eqb j i
within-one i j = elim (ℕ_discrete j i) [
  | yes e ↦ within-yes i (i + 1) j (omega arith) (omega arith) ∙ sym (eq-eqb j i e)
  | no ne ↦ within-no i (i + 1) j (omega arith) ∙ sym (ne_eqb j i ne)
]

pub within-more : (a n i : ℕ) → a ≤ n → upd (within a n) n true i ≡ within a (n + 1) i
unfolding upd
within-more a n i h = elim (ℕ_discrete i n) [
  | yes e ↦ rw (eq-eqb i n e) (sym (within-yes a (n + 1) i (omega arith) (omega arith)))
  | no ne ↦ rw (ne_eqb i n ne) (within-iff a n i a (n + 1) i (omega arith) (omega arith))
]

-- the same outside of the numbers from n up to m
pub within-run : (a n m i : ℕ) → n ≤ m → (n ≤ i → m ≤ i) → within a n i ≡ within a m i
within-run a n m i l out = elim (dec_le n i) [
  | yes u ↦ let v = out u in within-no a n i (omega arith) ∙ sym (within-no a m i (omega arith))
  | no u ↦ within-iff a n i a m i (omega arith) (omega arith)
]
