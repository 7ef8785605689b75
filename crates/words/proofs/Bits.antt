-- A word is its bits, and each operation acts on them one by one. Assumes nothing.
use mathlib.Core.Path.{◌≡◌, refl, sym, ap, ap₂, ◌∙◌}
use mathlib.Core.Bool.{Bool, true, false, cond, not, ◌&&◌, ◌||◌, and-false, true≢false}
use Prim.Native.Nat.{ℕ, zero, suc, ◌+◌, ◌-◌, ◌*◌, ◌/◌, ◌%◌, ◌^◌, ◌<◌, min, max}
use native.Mathlib.Nat.{div-one, zero-div}
use native.Mathlib.Numerals.{one-add}
use native.Mathlib.Decide.{ℕ_discrete}
use native.Mathlib.Omega.{arith}
use lib.Pow.{shr-shr, pow_pos}
use lib.Bits.{bit_and, bit_or, and_step, or_step}
use lib.Dec.{eqb, leb-zero, leb-suc-zero, leb-suc-suc, eqb-zero-suc, eqb-suc-zero, eqb-suc-suc}
use borrow.Author.Tests.{eq-eqb, ne_eqb}
use Rattle.words.specs.Bits.{bit, digit, pack, word_of, within, some}

-- ---- the lowest bit of a number is its lowest digit, and its other bits are those of its half

digit-lt : (b : Bool) → digit b < 2
digit-lt true = omega arith
digit-lt false = omega arith

eqb-digit : (b : Bool) → eqb (digit b) 1 ≡ b
eqb-digit true = refl
eqb-digit false = refl

digit-eqb : (d : ℕ) → d < 2 → d ≡ digit (eqb d 1)
digit-eqb zero h = refl
digit-eqb (suc zero) h = refl
digit-eqb (suc (suc d)) h = omega arith

-- bit 0 is the lowest digit
pub low-is : (w : ℕ) (b : Bool) → w % 2 ≡ digit b → bit w 0 ≡ b
unfolding bit
low-is w b e = rw (div-one, e, eqb-digit)

-- the digit at i is bit i
pub digit-at : (w i : ℕ) → w / 2 ^ i % 2 ≡ digit (bit w i)
unfolding bit
digit-at w i = digit-eqb (w / 2 ^ i % 2) (omega arith)

low : (w : ℕ) → w % 2 ≡ digit (bit w 0)
low w = rw div-one at (digit-at w 0)

-- the other bits are those of the half
pub bit-up : (w i : ℕ) → bit w (suc i) ≡ bit (w / 2) i
unfolding bit
bit-up w i = rw (shr-shr w 1 i, one-add)

-- the same, of a half that is known
pub half-is : (w v i : ℕ) → w / 2 ≡ v → bit w (suc i) ≡ bit v i
half-is w v i e = bit-up w i ∙ ap (λ (n : ℕ). bit n i) e

-- 0 has no bit
pub bit-of-zero : (i : ℕ) → bit 0 i ≡ false
unfolding bit
bit-of-zero i = rw zero-div

-- ---- a word is its bits

-- a packed number is below 2 ^ n
pub pack-lt : (n : ℕ) (f : ℕ → Bool) → pack n f < 2 ^ n
unfolding pack
pack-lt zero f = omega arith
pack-lt (suc n) f = omega (arith, pack-lt n (λ i. f (suc i)), digit-lt (f 0))

-- it has the bits that were packed
pub bit-pack : (n : ℕ) (f : ℕ → Bool) (i : ℕ) → i < n → bit (pack n f) i ≡ f i
unfolding pack
bit-pack zero f i h = absurd (omega arith)
bit-pack (suc n) f zero h = low-is (pack (suc n) f) (f 0) (omega (arith, digit-lt (f 0)))
bit-pack (suc n) f (suc i) h =
    half-is (pack (suc n) f) (pack n (λ i. f (suc i))) i (omega (arith, digit-lt (f 0))) ∙ bit-pack n (λ i. f (suc i)) i (omega arith)

-- a number below 2 ^ n is what its bits pack to
pub is-pack : (n w : ℕ) (f : ℕ → Bool) → w < 2 ^ n → ((i : ℕ) → i < n → bit w i ≡ f i) → w ≡ pack n f
unfolding pack
is-pack zero w f h e = omega arith
is-pack (suc n) w f h e =
    let high = is-pack n (w / 2) (λ i. f (suc i)) (omega arith) (λ i l. sym (bit-up w i) ∙ e (suc i) (omega arith)) in
    omega (arith, rw (e 0 (omega arith)) at (low w))

-- packing goes by the bits below n
pub pack-ext : (n : ℕ) (f g : ℕ → Bool) → ((i : ℕ) → i < n → f i ≡ g i) → pack n f ≡ pack n g
pack-ext n f g e = is-pack n (pack n f) g (pack-lt n f) (λ i l. bit-pack n f i l ∙ e i l)

-- a number's own bits pack to it
pub pack-bit : (n w : ℕ) → w < 2 ^ n → pack n (bit w) ≡ w
pack-bit n w h = sym (is-pack n w (bit w) h (λ i l. refl))

-- two numbers with the same bits are the same
pub same-bits : (n a b : ℕ) → a < 2 ^ n → b < 2 ^ n → ((i : ℕ) → i < n → bit a i ≡ bit b i) → a ≡ b
same-bits n a b ha hb e = is-pack n a (bit b) ha e ∙ pack-bit n b hb

-- a number with no bit is 0
pub no-bits : (n w : ℕ) → w < 2 ^ n → ((i : ℕ) → i < n → bit w i ≡ false) → w ≡ 0
no-bits n w h e = same-bits n w 0 h (pow_pos n) (λ i l. e i l ∙ sym (bit-of-zero i))

-- a number with a bit is not 0
pub some-bit : (w i : ℕ) → bit w i ≡ true → some w ≡ true
some-bit w i h = elim (ℕ_discrete w 0) [
  | yes e ↦ absurd (true≢false (sym h ∙ ap (λ (n : ℕ). bit n i) e ∙ bit-of-zero i))
  | no ne ↦ rw (ne_eqb w 0 ne)
]

-- ---- one bit stored

-- a bit stored as it was changes nothing
pub stored-same : (w i : ℕ) (b : Bool) → w < 2 ^ 16 → bit w i ≡ b → word_of (λ j. cond (eqb j i) b (bit w j)) ≡ w
stored-same w i b h e =
    pack-ext 16 (λ j. cond (eqb j i) b (bit w j)) (bit w) (λ j _. elim (ℕ_discrete j i) [
      | yes q ↦ rw (eq-eqb j i q, q) (sym e)
      | no ne ↦ rw (ne_eqb j i ne)
    ])
    ∙ pack-bit 16 w h

-- ---- masks

-- the bits of 2 ^ b - 2 ^ a are those from a up to b
pub mask-bit : (a b i : ℕ) → bit (2 ^ b - 2 ^ a) i ≡ within a b i
mask-bit a zero i =
    let none : 2 ^ 0 - 2 ^ a ≡ 0 = omega (arith, pow_pos a) in
    ap (λ (n : ℕ). bit n i) none ∙ bit-of-zero i ∙ simp (leb-suc-zero, and-false)
mask-bit zero (suc b) zero = low-is (2 ^ suc b - 1) true (omega (arith, pow_pos b)) ∙ rw (leb-suc-suc, leb-zero)
mask-bit zero (suc b) (suc i) =
    half-is (2 ^ suc b - 1) (2 ^ b - 1) i (omega (arith, pow_pos b)) ∙ mask-bit zero b i ∙ simp (leb-suc-suc, leb-zero)
mask-bit (suc a) (suc b) zero = low-is (2 ^ suc b - 2 ^ suc a) false (omega arith) ∙ simp leb-suc-zero
mask-bit (suc a) (suc b) (suc i) =
    half-is (2 ^ suc b - 2 ^ suc a) (2 ^ b - 2 ^ a) i (omega arith) ∙ mask-bit a b i ∙ simp leb-suc-suc

-- 2 ^ i has bit i and no other
pub pow-bit : (i j : ℕ) → bit (2 ^ i) j ≡ eqb j i
pow-bit zero zero = low-is 1 true refl
pow-bit zero (suc j) = half-is 1 0 j refl ∙ bit-of-zero j ∙ sym (eqb-suc-zero j)
pow-bit (suc i) zero = low-is (2 ^ suc i) false (omega arith) ∙ sym (eqb-zero-suc i)
pow-bit (suc i) (suc j) = half-is (2 ^ suc i) (2 ^ i) j (omega arith) ∙ pow-bit i j ∙ sym (eqb-suc-suc j i)

-- ---- the operations, bit by bit

digit-not : (b : Bool) → digit (not b) + digit b ≡ 1
digit-not true = refl
digit-not false = refl

-- the complement of an a of k bits
pub not-bit : (k a i : ℕ) → a < 2 ^ k → i < k → bit ((2 ^ k - 1) - a) i ≡ not (bit a i)
not-bit zero a i h l = absurd (omega arith)
not-bit (suc k) a zero h l = low-is ((2 ^ suc k - 1) - a) (not (bit a 0)) (omega (arith, low a, digit-not (bit a 0)))
not-bit (suc k) a (suc i) h l =
    half-is ((2 ^ suc k - 1) - a) ((2 ^ k - 1) - a / 2) i (omega arith)
    ∙ not-bit k (a / 2) i (omega arith) (omega arith) ∙ ap not (sym (bit-up a i))

module _ (op m : ℕ → ℕ → ℕ) (on : Bool → Bool → Bool)
    (step : (a b : ℕ) → op a b ≡ op (a / 2) (b / 2) * 2 + m (a % 2) (b % 2))
    (digits : (p q : Bool) → m (digit p) (digit q) ≡ digit (on p q)) where
  op-bit : (a b i : ℕ) → bit (op a b) i ≡ on (bit a i) (bit b i)
  op-bit a b i = go i a b
    where
      last : (a b : ℕ) → op a b ≡ op (a / 2) (b / 2) * 2 + digit (on (bit a 0) (bit b 0))
      last a b = step a b ∙ rw (low a, low b, digits)

      go : (i a b : ℕ) → bit (op a b) i ≡ on (bit a i) (bit b i)
      go zero a b = low-is (op a b) (on (bit a 0) (bit b 0)) (omega (arith, last a b, digit-lt (on (bit a 0) (bit b 0))))
      go (suc i) a b =
          half-is (op a b) (op (a / 2) (b / 2)) i (omega (arith, last a b, digit-lt (on (bit a 0) (bit b 0))))
          ∙ go i (a / 2) (b / 2) ∙ ap₂ on (sym (bit-up a i)) (sym (bit-up b i))

min-digits : (p q : Bool) → min (digit p) (digit q) ≡ digit (p && q)
min-digits true true = refl
min-digits true false = refl
min-digits false true = refl
min-digits false false = refl

max-digits : (p q : Bool) → max (digit p) (digit q) ≡ digit (p || q)
max-digits true true = refl
max-digits true false = refl
max-digits false true = refl
max-digits false false = refl

-- `a & b`
pub and-bit : (a b i : ℕ) → bit (bit_and a b) i ≡ (bit a i && bit b i)
and-bit = op-bit bit_and min (λ p q. p && q) and_step min-digits

-- `a | b`
pub or-bit : (a b i : ℕ) → bit (bit_or a b) i ≡ (bit a i || bit b i)
or-bit = op-bit bit_or max (λ p q. p || q) or_step max-digits
