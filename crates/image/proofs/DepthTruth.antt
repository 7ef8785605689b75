-- A map is true where each of its words below the top says what its bit in the word above says, one depth after the other.
-- Assumes nothing.
use mathlib.Core.Path.{◌≡◌, refl, sym, ap, ap₂, ◌∙◌}
use mathlib.Core.Bool.{Bool, true, beq}
use Prim.Native.Nat.{ℕ, zero, suc, ◌+◌, ◌*◌, ◌/◌, ◌%◌, ◌<◌}
use native.Mathlib.Nat.{mul_comm, mul_assoc}
use native.Mathlib.Numerals.{add-one}
use native.Mathlib.Omega.{arith}
use Rattle.words.specs.Search.{all}
use Rattle.words.specs.Bits.{bit, some}
use Rattle.words.specs.Tree.{own, child, same, true?}
use Rattle.words.proofs.Search.{all-at, all-is}
use Rattle.words.proofs.Tests.{both-ways, beq-same, same-is, same-self}
use Rattle.words.proofs.Truth.{true-is, is-true}
use Rattle.words.specs.Place.{count}
use Rattle.image.specs.Reading.{map_from, word_true, depth_true}
use Rattle.image.proofs.InDepth.{own-map, child-map}

-- ---- the word e depths above word m

up : ℕ → ℕ → ℕ
up zero m = m
up (suc e) m = up e m / 16

factor : (n c : ℕ) → n * (16 * c) ≡ 16 * n * c
factor n c = sym (mul_assoc n 16 c) ∙ ap (λ (x : ℕ). x * c) (mul_comm n 16)

-- one of the first n has all words below it before those of the others
up-below : (e n m : ℕ) → m < n * count e → up e m < n
unfolding up count
up-below zero n m l = omega arith
up-below (suc e) n m l = let wide : up e m < 16 * n = up-below e (16 * n) m (rw (← factor n (count e)) l) in omega arith

below-up : (e n m : ℕ) → up e m < n → m < n * count e
unfolding up count
below-up zero n m l = omega arith
below-up (suc e) n m l = rw (factor n (count e)) (below-up e (16 * n) m (omega arith))

-- ---- a map's truth, by the words below its own word

-- of word i below word j
word-below : (f : ℕ → ℕ → ℕ) (j i : ℕ) → i < 16 → word_true f 0 (16 * j + i) ≡ same (bit (f 0 j) i) (some (f 1 (16 * j + i)))
unfolding word_true
word-below f j i l =
    let above : (16 * j + i) / 16 ≡ j = omega arith in
    let place : (16 * j + i) % 16 ≡ i = omega arith in
    rw (above, place)

-- a map's own word and its children's
own-bit : (f : ℕ → ℕ → ℕ) (k j i : ℕ) → bit (own (map_from f (suc k) j)) i ≡ bit (f 0 j) i
own-bit f k j i = ap (λ (w : ℕ). bit w i) (own-map f (suc k) j)

own-kid : (f : ℕ → ℕ → ℕ) (k j i : ℕ) → i < 16 → some (own (child k (map_from f (suc k) j) i)) ≡ some (f 1 (16 * j + i))
own-kid f k j i l = ap some (ap own (child-map f k j i l) ∙ own-map (λ d. f (suc d)) k (16 * j + i))

below-true : (f : ℕ → ℕ → ℕ) (k j : ℕ) → ((e m : ℕ) → e < k → up (suc e) m ≡ j → word_true f e m ≡ true) → true? k (map_from f k j) ≡ true
unfolding true? up word_true
below-true f zero j h = refl
below-true f (suc k) j h = is-true k (map_from f (suc k) j) (λ i l.
    let above : (16 * j + i) / 16 ≡ j = omega arith in (
      own-bit f k j i ∙ same-is _ _ (sym (word-below f j i l) ∙ h 0 (16 * j + i) (omega arith) above) ∙ sym (own-kid f k j i l),
      ap (true? k) (child-map f k j i l) ∙ below-true (λ d. f (suc d)) k (16 * j + i) (λ e m u q. h (suc e) m (omega arith) (ap (λ (x : ℕ). x / 16) q ∙ above)),
    ))

true-below : (f : ℕ → ℕ → ℕ) (k j : ℕ) → true? k (map_from f k j) ≡ true → (e m : ℕ) → e < k → up (suc e) m ≡ j → word_true f e m ≡ true
unfolding up word_true
true-below f zero j h e m l q = absurd (omega arith)
true-below f (suc k) j h zero m l q =
    let i = m % 16 in
    let small : i < 16 = omega arith in
    let is : m ≡ 16 * j + i = omega arith in
    let bits = sym (own-bit f k j i) ∙ (true-is k (map_from f (suc k) j) h i small).0 ∙ own-kid f k j i small in
    ap (word_true f 0) is ∙ word-below f j i small ∙ ap (λ (b : Bool). same b (some (f 1 (16 * j + i)))) bits ∙ same-self (some (f 1 (16 * j + i)))
true-below f (suc k) j h (suc e) m l q =
    let a = up (suc e) m in
    let small : a % 16 < 16 = omega arith in
    let is : up (suc e) m ≡ 16 * j + a % 16 = omega arith in
    true-below (λ d. f (suc d)) k (16 * j + a % 16) (ap (true? k) (sym (child-map f k j (a % 16) small)) ∙ (true-is k (map_from f (suc k) j) h (a % 16) small).1)
    e m (omega arith) is

-- ---- by the depths

pub depths-true : (f : ℕ → ℕ → ℕ) (k : ℕ) → all (depth_true f) 0 k ≡ true? k (map_from f k 0)
unfolding depth_true
depths-true f k = both-ways _ _
    (λ h. below-true f k 0 (λ e m l q.
    let first : m < 1 * count (suc e) = below-up (suc e) 1 m (omega arith) in
    all-at (word_true f e) 0 (count (suc e)) (all-at (depth_true f) 0 k h e (omega arith) (omega arith)) m (omega arith) (omega arith)))
    (λ h. all-is (depth_true f) 0 k (λ e _ l. all-is (word_true f e) 0 (count (suc e)) (λ m _ u.
    let top : up (suc e) m < 1 = up-below (suc e) 1 m (omega arith) in
    true-below f k 0 h e m (omega arith) (omega arith))))

-- ---- as the code asks it of word m: w is the word above it, v the word, and b the bit

pub word-test : (f : ℕ → ℕ → ℕ) (d m : ℕ) {w v : ℕ} {b : Bool} → w ≡ f d (m / 16) → v ≡ f (d + 1) m → b ≡ bit w (m % 16)
    → beq b (some v) ≡ word_true f d m
unfolding word_true
word-test f d m {w} {v} {b} ew ev eb = beq-same b (some v) ∙ ap₂ same (eb ∙ ap (λ (x : ℕ). bit x (m % 16)) ew) (ap some (ev ∙ ap (λ (e : ℕ). f e m) (add-one d)))
