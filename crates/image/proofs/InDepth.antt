-- The words of a map by their depth: each stands at its place, and each place has one word. Assumes nothing.
use mathlib.Core.Path.{◌≡◌, refl, sym, ap, ◌∙◌}
use mathlib.Core.List.{List}
use Prim.Native.Nat.{ℕ, zero, suc, ◌+◌, ◌*◌, ◌/◌, ◌%◌, ◌<◌, ◌≤◌}
use native.Mathlib.Nat.{mul_comm, mul_assoc, add-mul, div-add-mod', div-lt_iff_lt-mul, mod-lt}
use native.Mathlib.Omega.{arith}
use lib.Arith.{digits_lt}
use lib.ListN.{length, get_or}
use Rattle.words.specs.Sizes.{words}
use Rattle.words.specs.Tree.{own, child, node}
use Rattle.words.proofs.Levels.{words-pos}
use Rattle.words.proofs.Rows.{row-length, row-at, length-node, child-node, child-at}
use Rattle.words.specs.Place.{count, place}
use Rattle.image.specs.Depths.{depth_words}
use Rattle.image.specs.Reading.{map_from}
use Rattle.words.proofs.Places.{in-child, place-lt, place-child}

-- ---- the words of a depth are those at its places

pub length-depth : (k d : ℕ) (s : List ℕ) → d ≤ k → length (depth_words k d s) ≡ count d
unfolding depth_words count
length-depth k zero s l = refl
length-depth zero (suc d) s l = absurd (omega arith)
length-depth (suc k) (suc d) s l =
    row-length (count d) (λ i. depth_words k d (child k s i)) 16 (λ i _. length-depth k d (child k s i) (omega arith))

pub depth-at : (h d k j : ℕ) (s : List ℕ) → h + d ≡ k → j < count d → get_or (depth_words k d s) j 0 ≡ get_or s (place h d j) 0
unfolding depth_words place count
depth-at h zero k j s e l = let first : j ≡ 0 = omega arith in rw first
depth-at h (suc d) zero j s e l = absurd (omega arith)
depth-at h (suc d) (suc k) j s e l =
    let c = in-child d j l in
    let i = c.which in
    let r = c.rest in
    let up : h + d ≡ k = omega arith in
    ap (λ (n : ℕ). get_or (depth_words (suc k) (suc d) s) n 0) c.is
    ∙ row-at (count d) (λ i. depth_words k d (child k s i)) 16 (λ i _. length-depth k d (child k s i) (omega arith)) i r c.which-lt c.rest_lt
    ∙ depth-at h d k r (child k s i) up c.rest_lt
    ∙ child-at k s i (place h d r) (place-lt h d k r up c.rest_lt)
    ∙ ap (λ (n : ℕ). get_or s n 0) (sym (ap (place h (suc d)) c.is ∙ place-child h d k i r up c.which-lt c.rest_lt))

-- ---- a map made of its words by depth has each at its place

pub own-map : (f : ℕ → ℕ → ℕ) (k j : ℕ) → own (map_from f k j) ≡ f 0 j
unfolding map_from node
own-map f zero j = refl
own-map f (suc k) j = refl

pub length-map : (f : ℕ → ℕ → ℕ) (k j : ℕ) → length (map_from f k j) ≡ words k
unfolding map_from words
length-map f zero j = refl
length-map f (suc k) j = length-node k (f 0 j) (λ i. map_from (λ d. f (suc d)) k (16 * j + i)) (λ i _. length-map (λ d. f (suc d)) k (16 * j + i))

pub child-map : (f : ℕ → ℕ → ℕ) (k j i : ℕ) → i < 16 → child k (map_from f (suc k) j) i ≡ map_from (λ d. f (suc d)) k (16 * j + i)
unfolding map_from
child-map f k j i l = child-node k (f 0 j) (λ i. map_from (λ d. f (suc d)) k (16 * j + i)) (λ i _. length-map (λ d. f (suc d)) k (16 * j + i)) i l

-- the number of a word below word j, by the child of that word that it is below
number-in : (d j i r : ℕ) → (16 * j + i) * count d + r ≡ j * count (suc d) + (i * count d + r)
unfolding count
number-in d j i r =
    let cut = add-mul (16 * j) i (count d) in
    let left : 16 * j * count d ≡ j * (16 * count d) = ap (λ (n : ℕ). n * count d) (mul_comm 16 j) ∙ mul_assoc j 16 (count d) in
    omega arith

map-at : (f : ℕ → ℕ → ℕ) (h d k j r : ℕ) → h + d ≡ k → r < count d → get_or (map_from f k j) (place h d r) 0 ≡ f d (j * count d + r)
unfolding place count
map-at f h zero k j r e l = let only : j ≡ j * 1 + r = omega arith in own-map f k j ∙ ap (f 0) only
map-at f h (suc d) zero j r e l = absurd (omega arith)
map-at f h (suc d) (suc k) j r e l =
    let c = in-child d r l in
    let i = c.which in
    let q = c.rest in
    let s = map_from f (suc k) j in
    let up : h + d ≡ k = omega arith in
    ap (λ (n : ℕ). get_or s n 0) (ap (place h (suc d)) c.is ∙ place-child h d k i q up c.which-lt c.rest_lt)
    ∙ sym (child-at k s i (place h d q) (place-lt h d k q up c.rest_lt))
    ∙ ap (λ (l : List ℕ). get_or l (place h d q) 0) (child-map f k j i c.which-lt)
    ∙ map-at (λ d. f (suc d)) h d k (16 * j + i) q up c.rest_lt
    ∙ ap (f (suc d)) (number-in d j i q ∙ ap (λ (n : ℕ). j * count (suc d) + n) (sym c.is))

-- of a whole map
pub map-top : (f : ℕ → ℕ → ℕ) (h d k j : ℕ) → h + d ≡ k → j < count d → get_or (map_from f k 0) (place h d j) 0 ≡ f d j
map-top f h d k j e l = let first : 0 * count d + j ≡ j = omega arith in map-at f h d k 0 j e l ∙ ap (f d) first

-- ---- each word has one place

pub place-one : (h d h' d' k j j' : ℕ) → h + d ≡ k → h' + d' ≡ k → j < count d → j' < count d' → place h d j ≡ place h' d' j' → (d ≡ d') × (j ≡ j')
place-one h d h' d' k j j' e e' l l' p =
    let is : (f : ℕ → ℕ → ℕ) → f d j ≡ f d' j' = λ f.
    sym (map-top f h d k j e l) ∙ ap (λ (n : ℕ). get_or (map_from f k 0) n 0) p ∙ map-top f h' d' k j' e' l' in
    (is (λ d _. d), is (λ _ j. j))

-- ---- and each place a word

pub record Placed (k p : ℕ) : Type 0 where
  pub below : ℕ
  pub depth : ℕ
  pub index : ℕ
  pub levels : below + depth ≡ k
  pub index-lt : index < count depth
  pub is : place below depth index ≡ p

pub placed : (k p : ℕ) → p < words k → Placed k p
unfolding words place count
placed zero p l = record { below = 0; depth = 0; index = 0; levels = refl; index-lt = omega arith; is = omega arith }
placed (suc k) zero l = record { below = suc k; depth = 0; index = 0; levels = omega arith; index-lt = omega arith; is = refl }
placed (suc k) (suc q) l =
    let i = q / words k in
    let i_lt : i < 16 = (div-lt_iff_lt-mul (words-pos k)).1 (omega arith) in
    let t = placed k (q % words k) (mod-lt q (words-pos k)) in
    record {
      below = t.below;
      depth = suc t.depth;
      index = i * count t.depth + t.index;
      levels = omega (arith, t.levels);
      index-lt = digits_lt i_lt t.index-lt;
      is = place-child t.below t.depth k i t.index t.levels i_lt t.index-lt ∙ omega (arith, t.is, div-add-mod' q (words k));
    }
