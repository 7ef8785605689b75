-- Where the words of each depth stand in their map, by their number. Assumes nothing.
use mathlib.Core.Path.{◌≡◌, refl, sym, ap, ◌∙◌}
use Prim.Native.Nat.{ℕ, zero, suc, ◌+◌, ◌-◌, ◌*◌, ◌/◌, ◌%◌, ◌^◌, ◌<◌, ◌≤◌}
use native.Mathlib.Nat.{mul_comm, mul_assoc, div-add-mod', div-lt_iff_lt-mul, mod-lt}
use native.Mathlib.Numerals.{add-one}
use native.Mathlib.Omega.{arith}
use lib.Pow.{pow-add, pow_mono, pow_pos}
use Rattle.words.specs.Sizes.{words, cap}
use Rattle.words.specs.Place.{count, place}
use Rattle.words.proofs.Levels.{words-node, words-pos, words-small, cap-pow}
use Rattle.words.proofs.Rows.{part-within}

-- ---- how many words a depth has

pub count-node : (d : ℕ) → count (suc d) ≡ 16 * count d
unfolding count
count-node d = refl

-- a power of 2, so that a product by it is a shift
pub count-pow : (d : ℕ) → count d ≡ 2 ^ (4 * d)
unfolding count
count-pow zero = refl
count-pow (suc d) =
    let up : 4 * suc d ≡ 4 + 4 * d = omega arith in
    rw (up, pow-add 2 4 (4 * d), count-pow d)

count-pos : (d : ℕ) → 0 < count d
count-pos d = rw count-pow (pow_pos (4 * d))

pub count-small : (d : ℕ) → d ≤ 6 → count d ≤ 16777216
count-small d h =
    let le : 4 * d ≤ 24 = omega arith in
    rw count-pow (pow_mono le)

-- a map's positions are those of its words of level j
pub cap-count : (j k : ℕ) → j ≤ k → cap k ≡ count (k - j) * cap j
cap-count j k h =
    let up : 4 * k + 4 ≡ 4 * (k - j) + (4 * j + 4) = omega arith in
    rw (cap-pow k, cap-pow j, count-pow (k - j), up) (pow-add 2 (4 * (k - j)) (4 * j + 4))

-- a map has the words of one level less, and those of its last depth
pub words-count : (d : ℕ) → words (suc d) ≡ words d + count (suc d)
unfolding words count
words-count zero = refl
words-count (suc d) = omega (arith, words-count d)

-- ---- a number of depth d + 1 by the child that it is in

pub record InChild (d j : ℕ) : Type 0 where
  pub which : ℕ
  pub rest : ℕ
  pub is : j ≡ which * count d + rest
  pub which-lt : which < 16
  pub rest_lt : rest < count d

pub in-child : (d j : ℕ) → j < count (suc d) → InChild d j
in-child d j h = record {
  which = j / count d;
  rest = j % count d;
  is = sym (div-add-mod' j (count d));
  which-lt = (div-lt_iff_lt-mul (count-pos d)).1 (omega (arith, count-node d));
  rest_lt = mod-lt j (count-pos d);
}

-- ---- places

pub place-step : (h d j : ℕ) → place h (suc d) j ≡ place (suc h) d (j / 16) + (1 + j % 16 * words h)
unfolding place
place-step h d j = refl

-- a word's place and those of all words below it are in its map
pub place-within : (h d k j : ℕ) → h + d ≡ k → j < count d → place h d j + words h ≤ words k
unfolding place
place-within h zero k j e l = let same : h ≡ k = omega arith in rw same (omega arith)
place-within h (suc d) k j e l =
    let fits : j % 16 * words h + words h ≤ 16 * words h = part-within (j % 16) (words h) (omega arith) in
    omega (arith, place-within (suc h) d k (j / 16) (omega arith) (omega (arith, count-node d)), words-node h)

pub place-lt : (h d k j : ℕ) → h + d ≡ k → j < count d → place h d j < words k
place-lt h d k j e l = omega (arith, place-within h d k j e l, words-pos h)

-- the place of a word of child i, by its place in the child
pub place-child : (h d k i r : ℕ) → h + d ≡ k → i < 16 → r < count d → place h (suc d) (i * count d + r) ≡ 1 + i * words k + place h d r
unfolding place count
place-child h zero k i r e l m =
    let none : r ≡ 0 = omega arith in
    let same : h ≡ k = omega arith in
    let one : (i * 1 + r) % 16 ≡ i = omega arith in
    rw (one, same) (omega arith)
place-child h (suc d) k i r e l m =
    let c = i * count d in
    let big : i * (16 * count d) ≡ 16 * c = sym (mul_assoc i 16 (count d)) ∙ ap (λ (n : ℕ). n * count d) (mul_comm i 16) ∙ mul_assoc 16 i (count d) in
    let high : (i * (16 * count d) + r) / 16 ≡ c + r / 16 = omega arith in
    let low : (i * (16 * count d) + r) % 16 ≡ r % 16 = omega arith in
    rw (high, low, place-child (suc h) d k i (r / 16) (omega arith) l (omega arith)) (omega arith)

-- ---- a place found from the word up to its map's own word, one depth at a time

-- word j of depth d in a map of level k: at its ancestor u depths up, which is word n of its depth and has as many words below and with it
-- as size says, the places passed are a
pub record Upward (k d j u n size a : ℕ) : Type 0 where
  pub upto : u ≤ d
  pub index-lt : n < count (d - u)
  pub size_is : size ≡ words (k - d + u)
  pub whole : a + place (k - d + u) (d - u) n ≡ place (k - d) d j

module _ (k d j : ℕ) where
  -- one depth up
  module _ {u n size a : ℕ} (h : Upward k d j u n size a) (below : u < d) where
    abbrev depth : ℕ
    depth = d - suc u

    down : suc depth ≡ d - u
    down = omega arith

    level : k - d + suc u ≡ suc (k - d + u)
    level = omega arith

    step : a + (1 + n % 16 * size) + place (k - d + suc u) depth (n / 16) ≡ place (k - d) d j
    step =
        let cut : place (k - d + u) (d - u) n ≡ place (suc (k - d + u)) depth (n / 16) + (1 + n % 16 * words (k - d + u)) =
        rw (← down) (place-step (k - d + u) depth n) in
        rw (level, h.size_is) (omega (arith, h.whole))

    index : n / 16 < count depth
    index = omega (arith, h.index-lt, count-node depth, ap count down)

    bigger : 1 + 16 * size ≡ words (k - d + suc u)
    bigger = rw level (omega (arith, h.size_is, words-node (k - d + u)))

    pub up-turn : Upward k d j (u + 1) (n / 16) (1 + 16 * size) (a + (1 + n % 16 * size))
    up-turn = rw add-one (record { upto = omega arith; index-lt = index; size_is = bigger; whole = step })

    -- no number on the way is larger than the map
    pub up-fits : d ≤ k → j < count d → k ≤ 6 → (a + (1 + n % 16 * size) ≤ 17895697) × (1 + 16 * size ≤ 17895697)
    up-fits le l small =
        let here : place (k - d) d j < words k = place-lt (k - d) d k j (omega arith) l in
        let within = place-within (k - d + suc u) depth k (n / 16) (omega arith) index in
        (omega (arith, step, words-small k small), omega (arith, bigger, within, words-small k small))

  pub up-end : {n size a : ℕ} → Upward k d j d n size a → a ≡ place (k - d) d j
  unfolding place
  up-end h = let own : d - d ≡ 0 = omega arith in omega (arith, rw own at h.whole)
