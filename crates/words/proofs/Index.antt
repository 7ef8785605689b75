-- Where the leaf word of a position stands, by shifts of the position. Assumes nothing.
use mathlib.Core.Path.{◌≡◌, refl, sym, ap, ◌∙◌}
use mathlib.Core.List.{List}
use Prim.Native.Nat.{ℕ, zero, suc, ◌+◌, ◌-◌, ◌*◌, ◌/◌, ◌%◌, ◌^◌, ◌<◌, ◌≤◌}
use native.Mathlib.Nat.{div-add-mod', mod-lt, mul_comm, mul-add, mul_left_comm, zero-add}
use native.Mathlib.Omega.{arith}
use lib.Pow.{shr-shr}
use lib.Bits.{bit_and, and_mask}
use lib.ListN.{length, get_or}
use Rattle.words.specs.Bits.{bit}
use Rattle.words.specs.Sizes.{words, cap}
use Rattle.words.specs.Tree.{leaf?}
use Rattle.words.specs.Place.{count, place, leaf_place}
use Rattle.words.proofs.Levels.{words-cap, cap-pos}
use Rattle.words.proofs.Path.{position-child}
use Rattle.words.proofs.Places.{cap-count, place-child}
use Rattle.words.proofs.OnWay.{leaf-word, leaf-below}

-- a leaf word has 16 positions
leaf-count : (k : ℕ) → cap k ≡ 16 * count k
unfolding cap
leaf-count k =
    let all : k - 0 ≡ k = omega arith in
    cap-count 0 k (omega arith) ∙ rw (all, mul_comm)

-- how many words of each of the k lowest levels stand before the one that p is in, all together
unfoldable pub passed : ℕ → ℕ → ℕ
passed zero p = 0
passed (suc k) p = p / 16 + passed k (p / 16)

-- each child before p's has all its words passed
passed-child : (k i r : ℕ) → r < cap k → passed (suc k) (i * cap k + r) ≡ i * words k + passed k r
unfolding passed cap words
passed-child zero i r h = omega arith
passed-child (suc k) i r h =
    let up : (i * (16 * cap k) + r) / 16 ≡ i * cap k + r / 16 = omega (arith, mul_left_comm i 16 (cap k)) in
    let more : words (suc k) ≡ words k + cap k = omega (arith, words-cap k) in
    rw up (omega (arith, passed-child k i (r / 16) (omega arith), ap (λ (n : ℕ). i * n) more ∙ mul-add i (words k) (cap k)))

-- a leaf word stands after the own words of the k maps on the way, and after the words passed
pub place-passed : (k p : ℕ) → p < cap k → leaf_place k p ≡ k + passed k p
unfolding place passed
place-passed zero p h = refl
place-passed (suc k) p h =
    let i = p / cap k in
    let r = p % cap k in
    let l = mod-lt p (cap-pos k) in
    let leaves : cap k ≡ 16 * count k = leaf-count k in
    let word : p / 16 ≡ i * count k + r / 16 =
    omega (arith, div-add-mod' p (cap k), ap (λ (n : ℕ). i * n) leaves ∙ mul_left_comm i 16 (count k)) in
    ap (place 0 (suc k)) word
    ∙ place-child 0 k k i (r / 16) (omega arith) (position-child {j = k} p refl h) (omega arith)
    ∙ omega (arith, place-passed k r l, ap (passed (suc k)) (sym (div-add-mod' p (cap k))) ∙ passed-child k i r l)

-- above the map no word is passed
passed-none : (n p : ℕ) → p < 16 → passed n p ≡ 0
unfolding passed
passed-none zero p h = refl
passed-none (suc n) p h =
    let z : p / 16 ≡ 0 = omega arith in
    rw (z, zero-add) (passed-none n 0 (omega arith))

passed-more : (k n p : ℕ) → k ≤ n → p < cap k → passed n p ≡ passed k p
unfolding passed cap
passed-more zero n p l h = passed-none n p h
passed-more (suc k) zero p l h = absurd (omega arith)
passed-more (suc k) (suc n) p l h = ap (λ (x : ℕ). p / 16 + x) (passed-more k n (p / 16) (omega arith) (omega arith))

-- the six shifts of `leaf_place`
passed-shifts : (p : ℕ) → passed 6 p ≡ p / 2 ^ 4 + (p / 2 ^ 8 + (p / 2 ^ 12 + (p / 2 ^ 16 + (p / 2 ^ 20 + (p / 2 ^ 24 + 0)))))
unfolding passed
passed-shifts p = simp (shr-shr p 4 4, shr-shr p 8 4, shr-shr p 12 4, shr-shr p 16 4, shr-shr p 20 4)

pub place-shifts : (k p : ℕ) → k ≤ 6 → p < cap k
    → k + p / 2 ^ 4 + p / 2 ^ 8 + p / 2 ^ 12 + p / 2 ^ 16 + p / 2 ^ 20 + p / 2 ^ 24 ≡ leaf_place k p
place-shifts k p l h = omega (arith, passed-shifts p, place-passed k p h, passed-more k 6 p l h)

-- the leaf bit at p is bit `p & 15` of that word
pub leaf-stored : (k : ℕ) (s : List ℕ) (p : ℕ) → length s ≡ words k → p < cap k → leaf? k s p ≡ bit (get_or s (leaf_place k p) 0) (bit_and p 15)
leaf-stored k s p len l = leaf-below k s p len l ∙ rw (leaf-word k s p, and_mask p 4)
