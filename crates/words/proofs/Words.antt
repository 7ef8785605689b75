-- What the machine forms compute: shifts, masks, bits set, cleared and tested, a count of zeros, and one less. Assumes nothing.
use mathlib.Core.Path.{◌≡◌, refl, sym, ap, ◌∙◌}
use mathlib.Core.Bool.{Bool, true, false, cond, not, ◌&&◌, ◌||◌, and-false, and_self, true≢false}
use mathlib.Core.Logic.{⊎_elim}
use Prim.Native.Nat.{ℕ, zero, suc, ◌+◌, ◌-◌, ◌*◌, ◌/◌, ◌%◌, ◌^◌, ◌≤◌, ◌<◌}
use native.Mathlib.Nat.{one-mul, mod-eq_of_lt, lt_of_le_of_lt, lt_of_lt_of_le, div-one, zero-add, add-zero, suc-add, add-suc}
use native.Mathlib.Decide.{ℕ_discrete}
use native.Mathlib.Numerals.{add-one}
use native.Mathlib.Omega.{arith}
use lib.Pow.{pow_mono, pow-lt, pow_pos, shr-shr}
use lib.Bits.{bit_and, bit_or, and_lt, and_le_l, or_lt, and_mask}
use lib.Dec.{eqb, leb-zero, eqb-zero-suc, eqb-suc-zero, eqb-suc-suc}
use lib.Count.{count_trailing_zeros, under}
use borrow.Author.Tests.{eq-eqb, ne_eqb, lt-ltb, le-ltb, ltb-true, le-leb, lt-leb, leb-true}
use Rattle.words.specs.declared.kind.Change.TheVariants.{Remove}
use Rattle.words.specs.Search.{first_from, none}
use Rattle.words.specs.Bits.{bit, digit, word_of, within, change_word, lowest_bit}
use Rattle.words.proofs.Search.{First, first-is, first-ext, first-skip}
use Rattle.std.proofs.lemmas.Bool.{cases_Bool}
use Rattle.words.proofs.Tests.{and-both}
use Rattle.words.proofs.Bits.{low-is, digit-at, bit-up, half-is, bit-of-zero, bit-pack, pack-ext, pack-lt, is-pack, no-bits, mask-bit, pow-bit, not-bit, and-bit, or-bit}

-- ---- shifts and masks

-- `(w >> i) & 1 == 1`
pub test-is : (w i : ℕ) → eqb (bit_and (w / 2 ^ i) 1) 1 ≡ bit w i
unfolding bit
test-is w i = rw (and_mask (w / 2 ^ i) 1)

-- `1 << i`
pub shl-one : (n i : ℕ) → i < n → 1 * 2 ^ i % 2 ^ n ≡ 2 ^ i
shl-one n i h = rw (one-mul, mod-eq_of_lt (pow-lt h))

-- `p & ((1 << i) - 1)`
pub rest-is : (n p i : ℕ) → i < n → bit_and p (1 * 2 ^ i % 2 ^ n - 1) ≡ p % 2 ^ i
rest-is n p i h = rw (shl-one n i h) (and_mask p i)

-- `(1 << b) - (1 << a)`
pub mask-is : (a b : ℕ) → a ≤ b → b ≤ 16 → 1 * 2 ^ b % 2 ^ 32 - 1 * 2 ^ a % 2 ^ 32 ≡ word_of (within a b)
mask-is a b h l =
    rw (shl-one 32 a (omega arith), shl-one 32 b (omega arith))
    (is-pack 16 (2 ^ b - 2 ^ a) (within a b) (omega (arith, pow_pos a, pow_mono l)) (λ i u. mask-bit a b i))

-- ---- bits set and cleared

or-cond : (x y : Bool) → (x || y) ≡ cond y true x
or-cond true true = refl
or-cond true false = refl
or-cond false true = refl
or-cond false false = refl

but-cond : (x y : Bool) → (x && not y) ≡ cond y false x
but-cond true true = refl
but-cond true false = refl
but-cond false true = refl
but-cond false false = refl

-- `w | v`, and `w & !v` at n bits, where v has the bits f
module _ (w v : ℕ) (f : ℕ → Bool) (hw : w < 2 ^ 16) (hv : v < 2 ^ 16) (e : (i : ℕ) → i < 16 → bit v i ≡ f i) where
  or-word : bit_or w v ≡ word_of (λ i. cond (f i) true (bit w i))
  or-word =
      is-pack 16 (bit_or w v) (λ i. cond (f i) true (bit w i)) (or_lt 16 w v hw hv)
      (λ i l. or-bit w v i ∙ ap (λ (b : Bool). bit w i || b) (e i l) ∙ or-cond (bit w i) (f i))

  but-word : (n : ℕ) → 16 ≤ n → bit_and w ((2 ^ n - 1) - v) ≡ word_of (λ i. cond (f i) false (bit w i))
  but-word n h =
      is-pack 16 (bit_and w ((2 ^ n - 1) - v)) (λ i. cond (f i) false (bit w i)) (lt_of_le_of_lt (and_le_l w _) hw)
      (λ i l. and-bit w ((2 ^ n - 1) - v) i ∙ ap (λ (b : Bool). bit w i && b) (not-bit n v i (lt_of_lt_of_le hv (pow_mono h)) (omega arith) ∙ ap not (e i l)) ∙ but-cond (bit w i) (f i))

-- one bit set, and cleared
module _ (w i : ℕ) (h : w < 2 ^ 16) (l : i < 16) where
  pub set-is : bit_or w (2 ^ i) ≡ word_of (λ j. cond (eqb j i) true (bit w j))
  set-is = or-word w (2 ^ i) (λ j. eqb j i) h (pow-lt l) (λ j u. pow-bit i j)

  pub clear-is : bit_and w ((2 ^ 32 - 1) - 2 ^ i) ≡ word_of (λ j. cond (eqb j i) false (bit w j))
  clear-is = but-word w (2 ^ i) (λ j. eqb j i) h (pow-lt l) (λ j u. pow-bit i j) 32 (omega arith)

-- a mask's bits set, and cleared
module _ (w : ℕ) (f : ℕ → Bool) (h : w < 2 ^ 16) where
  pub insert-is : bit_or w (word_of f) ≡ word_of (λ i. cond (f i) true (bit w i))
  insert-is = or-word w (word_of f) f h (pack-lt 16 f) (bit-pack 16 f)

  pub remove-is : bit_and w ((2 ^ 16 - 1) - word_of f) ≡ word_of (λ i. cond (f i) false (bit w i))
  remove-is = but-word w (word_of f) f h (pack-lt 16 f) (bit-pack 16 f) 16 (omega arith)

-- bits replaced in a word that is known by its bits
pub replace-is : (at : ℕ → Bool) (x : Bool) (f : ℕ → Bool) {w : ℕ} → w ≡ word_of f → word_of (λ i. cond (at i) x (bit w i)) ≡ word_of (λ i. cond (at i) x (f i))
replace-is at x f {w} e =
    pack-ext 16 (λ i. cond (at i) x (bit w i)) (λ i. cond (at i) x (f i))
    (λ i l. ap (cond (at i) x) (ap (λ (n : ℕ). bit n i) e ∙ bit-pack 16 f i l))

-- ---- bits tested by a mask

module _ (w a b : ℕ) (fits : w < 2 ^ 16) (le : a ≤ b) (small : b ≤ 16) where
  abbrev masked : ℕ
  masked = bit_and w (word_of (within a b))

  abbrev first : ℕ
  first = first_from (bit w) a (b - a)

  masked-bit : (i : ℕ) → i < 16 → bit masked i ≡ (bit w i && within a b i)
  masked-bit i l = and-bit w (word_of (within a b)) i ∙ ap (λ (x : Bool). bit w i && x) (bit-pack 16 (within a b) i l)

  t : First (bit w) a b first
  t = first-is (bit w) a (b - a) b (omega arith)

  -- `w & mask(a, b) == 0`: none is set
  mask-none : masked ≡ 0 → b ≤ first
  mask-none e =
      let on : first < b → bit masked first ≡ true = λ l. masked-bit first (omega arith) ∙ rw (t.here l, le-leb a first t.from, lt-ltb first b l) in
      let none : ¬ (first < b) = λ l. true≢false (sym (on l) ∙ ap (λ (n : ℕ). bit n first) e ∙ bit-of-zero first) in
      omega arith

  -- and otherwise one is
  mask-some : (masked ≡ 0 → ⊥) → first < b
  mask-some ne =
      let some : ¬ (b ≤ first) = λ l. ne (no-bits 16 masked (and_lt 16 w (word_of (within a b)) fits (pack-lt 16 (within a b))) (λ i u. masked-bit i u ∙ off l i)) in
      omega arith
    where
      off : b ≤ first → (i : ℕ) → (bit w i && within a b i) ≡ false
      off l i =
          ⊎_elim
          (λ y. let p = and-both _ _ y in
          let below : i < first = omega (arith, ltb-true i b p.1) in
          rw (t.before i (leb-true a i p.0) below))
          (λ y. rw y (and-false (bit w i)))
          (cases_Bool (within a b i))

  -- which is what the test says
  pub mask-clear : eqb masked 0 ≡ none (bit w) a b
  mask-clear = elim (ℕ_discrete masked 0) [
    | yes e ↦ eq-eqb masked 0 e ∙ sym (le-leb b first (mask-none e))
    | no ne ↦ ne_eqb masked 0 ne ∙ sym (lt-leb b first (mask-some ne))
  ]

-- ---- a count of zeros

zeros-step : (b : Bool) (t k r : ℕ) → r ≡ suc k + t → cond b k r ≡ k + under (digit b) t
zeros-step true t k r e = sym (add-zero k)
zeros-step false t k r e = e ∙ rw (suc-add, add-suc)

-- the first set bit from k on is past the zeros there
first-zeros : (m w k : ℕ) → first_from (bit w) k m ≡ k + count_trailing_zeros m (w / 2 ^ k)
unfolding first_from count_trailing_zeros
first-zeros zero w k = sym (add-zero k)
first-zeros (suc m) w k =
    rw (digit-at, shr-shr w k 1, add-one) (zeros-step (bit w k) (count_trailing_zeros m (w / 2 ^ suc k)) k (first_from (bit w) (suc k) m) (first-zeros m w (suc k)))

-- the lowest set bit is past all of them
pub lowest-is : (w : ℕ) → first_from (bit w) 0 16 ≡ count_trailing_zeros 16 w
lowest-is w = rw (div-one, zero-add) at (first-zeros 16 w 0)

-- that of a word without the bits below i is the first from i on
pub lowest-from : (w i : ℕ) → i ≤ 16 → lowest_bit (change_word Remove w 0 i) ≡ first_from (bit w) i (16 - i)
lowest-from w i h =
    first-skip (bit (word_of f)) 0 i 16 (omega arith) h (λ q _ l. bit-pack 16 f q (omega arith) ∙ rw (leb-zero q, lt-ltb q i l))
    ∙ first-ext (bit (word_of f)) (bit w) i (16 - i) (λ q l u. bit-pack 16 f q (omega arith) ∙ rw (leb-zero q, le-ltb q i l))
  where
    f : ℕ → Bool
    f j = cond (within 0 i j) false (bit w j)

-- ---- the lowest set bit cleared

-- one less than a number has its bits above the lowest one, which it lacks
less-bit : (n w j : ℕ) → 0 < w → w < 2 ^ n → (bit w j && bit (w - 1) j) ≡ cond (eqb j (count_trailing_zeros n w)) false (bit w j)
unfolding count_trailing_zeros
less-bit zero w j h l = absurd (omega arith)
less-bit (suc n) w zero h l = elim (ℕ_discrete (w % 2) 0) [
  | yes e ↦ rw (e, low-is w false e, eqb-zero-suc)
  | no ne ↦
      let odd : w % 2 ≡ 1 = omega arith in
      rw (odd, low-is (w - 1) false (omega arith), and-false)
]
less-bit (suc n) w (suc j) h l = elim (ℕ_discrete (w % 2) 0) [
  | yes e ↦ rw (e, eqb-suc-suc, bit-up w j, half-is (w - 1) (w / 2 - 1) j (omega arith)) (less-bit n (w / 2) j (omega arith) (omega arith))
  | no ne ↦
      let odd : w % 2 ≡ 1 = omega arith in
      rw (odd, eqb-suc-zero, bit-up w j, half-is (w - 1) (w / 2) j (omega arith)) (and_self (bit (w / 2) j))
]

-- `w & (w - 1)`
pub less-is : (w : ℕ) → 0 < w → w < 2 ^ 16 → bit_and w (w - 1) ≡ word_of (λ j. cond (eqb j (lowest_bit w)) false (bit w j))
less-is w h l =
    is-pack 16 (bit_and w (w - 1)) (λ j. cond (eqb j (lowest_bit w)) false (bit w j)) (lt_of_le_of_lt (and_le_l w _) l)
    (λ j _. and-bit w (w - 1) j ∙ rw (lowest-is w) (less-bit 16 w j h l))
