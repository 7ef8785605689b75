-- The numbers of a range: which children it visits, and what part of each. Assumes nothing.
use mathlib.Core.Path.{◌≡◌, sym, ap, ◌∙◌}
use mathlib.Core.Bool.{Bool}
use Prim.Native.Nat.{ℕ, ◌+◌, ◌-◌, ◌*◌, ◌/◌, ◌%◌, min, ◌<◌, ◌≤◌, suc-le-suc}
use native.Mathlib.Nat.{suc-mul, mod-lt, div-add-mod', div-lt_iff_lt-mul, le-div_iff_mul-le}
use native.Mathlib.Decide.{dec_le}
use native.Mathlib.Omega.{arith}
use borrow.Author.Tests.{lt-ltb, le-ltb}
use Rattle.words.specs.Search.{first_from}
use Rattle.words.specs.Bits.{within}
use Rattle.change.specs.Change.{low, high, visits}
use Rattle.words.proofs.Search.{First, first-is, is-first}
use Rattle.words.proofs.Within.{within-yes, within-no, within-iff}

-- ---- in a map whose children have c positions each, the positions from a up to b stand in the children a / c up to (b - 1) / c

module _ (c : ℕ) (pos : 0 < c) where
  -- the last child is one of 16
  pub last-below : (b : ℕ) → b ≤ 16 * c → 0 < b → (b - 1) / c < 16
  last-below b l some = (div-lt_iff_lt-mul pos).1 (omega arith)

  module _ (a b : ℕ) (lt : a < b) where
    pub first-last : a / c ≤ (b - 1) / c
    first-last = (le-div_iff_mul-le pos).1 (omega (arith, mod-lt a pos, div-add-mod' a c))

    -- child i is visited where what it has of the range is not empty
    pub visited-in : (i : ℕ) → a / c ≤ i → i ≤ (b - 1) / c → low c a i < high c b i
    unfolding low high
    visited-in i f l = omega (arith, rw suc-mul at ((div-lt_iff_lt-mul pos).0 (suc-le-suc f)), (le-div_iff_mul-le pos).0 l)

    visited-before : (i : ℕ) → i < a / c → high c b i ≤ low c a i
    unfolding low high
    visited-before i f = omega (arith, rw suc-mul at ((le-div_iff_mul-le pos).0 f))

    visited-after : (i : ℕ) → (b - 1) / c < i → high c b i ≤ low c a i
    unfolding low high
    visited-after i l = omega (arith, (div-lt_iff_lt-mul pos).0 l)

    pub visited : (i : ℕ) → within (a / c) ((b - 1) / c + 1) i ≡ visits c a b i
    visited i = elim (dec_le (a / c) i) [
      | no f ↦ let f' : i < a / c = omega arith in
          within-no _ _ i (omega arith) ∙ sym (le-ltb _ _ (visited-before i f'))
      | yes f ↦ elim (dec_le i ((b - 1) / c)) [
        | no l ↦ let l' : (b - 1) / c < i = omega arith in
            within-no _ _ i (omega arith) ∙ sym (le-ltb _ _ (visited-after i l'))
        | yes l ↦ within-yes _ _ i f (omega arith) ∙ sym (lt-ltb _ _ (visited-in i f l))
      ]
    ]

  -- a visited child starts before the range's end, and its part ends within it
  pub visited-start : (a b i : ℕ) → low c a i < high c b i → i * c < b
  unfolding low high
  visited-start a b i l = omega arith

  -- a position of the range is one of what a child has of the range
  pub within-child : (a b p : ℕ) → within (low c a (p / c)) (high c b (p / c)) (p % c) ≡ within a b p
  unfolding low high
  within-child a b p =
      let e : p / c * c + p % c ≡ p = div-add-mod' p c in
      let m : p % c < c = mod-lt p pos in
      within-iff (low c a (p / c)) (high c b (p / c)) (p % c) a b p (omega arith) (omega arith)

pub high-le : (c b i : ℕ) → high c b i ≤ c
unfolding high
high-le c b i = omega arith

-- of a child within the range it has all
pub whole-part : (c a b i : ℕ) → a ≤ i * c → i * c + c ≤ b → (low c a i ≡ 0) × (high c b i ≡ c)
unfolding low high
whole-part c a b i l m = (omega arith, omega arith)

-- ---- a search in the range from a up to b: in a child that has some of it, and before which there is nothing, it is the search of
-- the child's part, where f tests the map's positions and g those of child i

pub first-in : (f g : ℕ → Bool) (c a b i : ℕ) → a ≤ b → low c a i < high c b i → ((q : ℕ) → q < c → f (i * c + q) ≡ g q) → i * c ≤ first_from f a (b - a)
    → first_from g (low c a i) (high c b i - low c a i) ≡ min (high c b i) (first_from f a (b - a) - i * c)
unfolding low high
first-in f g c a b i le v same m =
    is-first g (low c a i) (high c b i - low c a i) (high c b i) _ (omega arith) (record {
      from = omega (arith, t.from);
      upto = omega arith;
      here = λ l.
          let at : min (high c b i) (p - i * c) ≡ p - i * c = omega arith in
          let whole : i * c + (p - i * c) ≡ p = omega arith in
          ap g at ∙ sym (same (p - i * c) (omega arith)) ∙ ap f whole ∙ t.here (omega arith);
      before = λ q l u. sym (same q (omega arith)) ∙ t.before (i * c + q) (omega arith) (omega arith);
    })
  where
    p : ℕ
    p = first_from f a (b - a)

    t : First f a b p
    t = first-is f a (b - a) b (omega arith)
