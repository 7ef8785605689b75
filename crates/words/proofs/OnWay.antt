-- The word of level j on the way to a position p, in a map of level k: where it stands, and the map of level j whose own word it is.
-- Assumes nothing.
use mathlib.Core.Path.{◌≡◌, refl, sym, ap, ap₂, ◌∙◌}
use mathlib.Core.Logic.{⊎_elim}
use mathlib.Core.List.{List, [], ◌∷◌}
use Prim.Native.Nat.{ℕ, zero, suc, ◌+◌, ◌-◌, ◌*◌, ◌/◌, ◌%◌, ◌<◌, ◌≤◌}
use native.Mathlib.Nat.{mod-eq_of_lt, eq-or-lt_of_le, add-zero, mul_comm, div-div-eq-div-mul, div-lt_iff_lt-mul}
use native.Mathlib.Omega.{arith}
use lib.Pow.{field, mod-mod-pow}
use lib.ListN.{length, take, drop, get_or, length-take, length-drop}
use lib.Seq.{get_or-take, get_or-drop, take-take, drop-drop, take_all}
use Rattle.words.specs.Bits.{bit}
use Rattle.words.specs.Sizes.{words, cap}
use Rattle.words.specs.Tree.{own, child, leaf?}
use Rattle.words.specs.Place.{count, place, leaf_place, on_way}
use Rattle.words.proofs.Levels.{words-node, words-pos, cap-node, cap-pos, cap-pow}
use Rattle.words.proofs.Rows.{part-within}
use Rattle.words.proofs.Path.{position-child, leaf-child}
use Rattle.words.proofs.Places.{cap-count, place-step, place-within}

-- what holds at level k, and at each level where it holds at the next, holds at each level up to k
pub descend : (P : ℕ → Type 0) (k : ℕ) → P k → ((j : ℕ) → j < k → P (suc j) → P j) → (j : ℕ) → j ≤ k → P j
descend P zero top step j l =
    let here : j ≡ 0 = omega arith in
    rw here top
descend P (suc k) top step j l =
    ⊎_elim
    (λ (e : j ≡ suc k). rw e top)
    (λ (h : j < suc k). descend P k (step k (omega arith) top) (λ i m. step i (omega arith)) j (omega arith))
    (eq-or-lt_of_le l)

-- ---- a position's digits

-- the position in a part is that in a part of the part
pub rest-rest : (j k p : ℕ) → j ≤ k → p % cap k % cap j ≡ p % cap j
rest-rest j k p h =
    let up : 4 * k + 4 ≡ 4 * (k - j) + (4 * j + 4) = omega arith in
    rw (cap-pow k, cap-pow j, up) (mod-mod-pow p (4 * (k - j)) (4 * j + 4))

-- the child of a map that a position is in
pub digit-child : (j p : ℕ) → p % cap (suc j) / cap j ≡ p / cap j % 16
digit-child j p =
    let up : 4 * suc j + 4 ≡ 4 + (4 * j + 4) = omega arith in
    rw (cap-pow (suc j), cap-pow j, up) (field p 4 (4 * j + 4))

-- it is one of 16
pub digit-lt : (j p : ℕ) → p / cap j % 16 < 16
digit-lt j p = omega arith

-- the part of the level above that it is in
pub part-above : (j p : ℕ) → p / cap j / 16 ≡ p / cap (suc j)
part-above j p = div-div-eq-div-mul p (cap j) 16 ∙ ap (λ (n : ℕ). p / n) (mul_comm (cap j) 16 ∙ sym (cap-node j))

-- ---- where the word stands

pub on-own : (k p : ℕ) → on_way k k p ≡ 0
unfolding on_way place
on-own k p = let none : k - k ≡ 0 = omega arith in rw none

-- the leaf word
pub on-leaf : (k p : ℕ) → on_way 0 k p ≡ leaf_place k p
unfolding on_way cap
on-leaf k p = let all : k - 0 ≡ k = omega arith in rw all

-- by the word above
pub on-up : (j k p : ℕ) → j < k → on_way j k p ≡ on_way (suc j) k p + (1 + p / cap j % 16 * words j)
unfolding on_way
on-up j k p h =
    let up : k - j ≡ suc (k - suc j) = omega arith in
    rw (up, place-step j (k - suc j) (p / cap j), part-above j p)

-- a digit in a part
digit-rest : (j k p : ℕ) → j < k → p % cap k / cap j % 16 ≡ p / cap j % 16
digit-rest j k p h = sym (digit-child j (p % cap k)) ∙ ap (λ (r : ℕ). r / cap j) (rest-rest (suc j) k p h) ∙ digit-child j p

-- by the child that has the position
pub on-child : (k p : ℕ) → p < cap (suc k) → (j : ℕ) → j ≤ k → on_way j (suc k) p ≡ 1 + p / cap k * words k + on_way j k (p % cap k)
on-child k p l = descend (λ (j : ℕ). on_way j (suc k) p ≡ 1 + p / cap k * words k + on_way j k (p % cap k)) k
    (let digit : p / cap k % 16 ≡ p / cap k = mod-eq_of_lt (position-child {j = k} p refl l) in
    on-up k (suc k) p (omega arith) ∙ rw (on-own, on-own, digit) (omega arith))
    (λ j h e. on-up j (suc k) p (omega arith) ∙ rw (e, on-up j k (p % cap k) h, digit-rest j k p h) (omega arith))

module _ (j k p : ℕ) (h : j ≤ k) (l : p < cap k) where
  number-lt : p / cap j < count (k - j)
  number-lt = (div-lt_iff_lt-mul (cap-pos j)).1 (rw (← cap-count j k h) l)

  -- the map of level j that it begins ends within the map
  pub on-fits : on_way j k p + words j ≤ words k
  unfolding on_way
  on-fits = place-within j (k - j) k (p / cap j) (omega arith) number-lt

  pub on-lt : on_way j k p < words k
  on-lt = omega (arith, on-fits, words-pos j)

-- the leaf word is one of the map's
pub leaf-place-lt : (k p : ℕ) → p < cap k → leaf_place k p < words k
leaf-place-lt k p l = rw on-leaf at (on-lt 0 k p (omega arith) l)

-- ---- the map of level j on the way

unfoldable pub below : ℕ → ℕ → List ℕ → ℕ → List ℕ
below j k s p = take (words j) (drop (on_way j k p) s)

-- its own word
pub on-word : (j k : ℕ) (s : List ℕ) (p : ℕ) → get_or s (on_way j k p) 0 ≡ own (below j k s p)
unfolding below
on-word j k s p =
    sym (get_or-take (words j) (drop (on_way j k p) s) 0 0 (words-pos j) ∙ get_or-drop (on_way j k p) s 0 0 ∙ ap (λ (m : ℕ). get_or s m 0) (add-zero (on_way j k p)))

-- the leaf word is that of the map of level 0
pub leaf-word : (k : ℕ) (s : List ℕ) (p : ℕ) → get_or s (leaf_place k p) 0 ≡ own (below 0 k s p)
leaf-word k s p = rw on-leaf at (on-word 0 k s p)

-- a part of a part
part-part : (a m n : ℕ) (l : List ℕ) → a + m ≤ n → take m (drop a (take n l)) ≡ take m (drop a l)
part-part zero m n l h = take-take m n l (omega arith)
part-part (suc a) m zero l h = absurd (omega arith)
part-part (suc a) m (suc n) [] h = refl
part-part (suc a) m (suc n) (x ∷ l) h = part-part a m n l (omega arith)

module _ (k : ℕ) (s : List ℕ) (p : ℕ) (len : length s ≡ words k) where
  pub below-own : below k k s p ≡ s
  unfolding below
  below-own = ap (λ (m : ℕ). take (words k) (drop m s)) (on-own k p) ∙ take_all (words k) s (omega arith)

  module _ (l : p < cap k) where
    pub below-length : (j : ℕ) → j ≤ k → length (below j k s p) ≡ words j
    unfolding below
    below-length j h = simp (length-take, length-drop) (omega (arith, on-fits j k p h l))

    -- it is a child of the one above
    pub below-child : (j : ℕ) → j < k → below j k s p ≡ child j (below (suc j) k s p) (p / cap j % 16)
    unfolding below child
    below-child j h =
        let i = p / cap j % 16 in
        ap (λ (m : ℕ). take (words j) (drop m s)) (on-up j k p h)
        ∙ sym
        (part-part (1 + i * words j) (words j) (words (suc j)) (drop (on_way (suc j) k p) s) (omega (arith, words-node j, part-within i (words j) (digit-lt j p)))
        ∙ ap (take (words j)) (drop-drop (1 + i * words j) (on_way (suc j) k p) s))

    -- the leaf bit at p is one of its
    leaf-in-below : (j : ℕ) → j ≤ k → leaf? k s p ≡ leaf? j (below j k s p) (p % cap j)
    leaf-in-below = descend (λ (j : ℕ). leaf? k s p ≡ leaf? j (below j k s p) (p % cap j)) k
        (ap₂ (leaf? k) (sym below-own) (sym (mod-eq_of_lt l)))
        (λ j h e.
        e ∙ leaf-child (below (suc j) k s p) (p % cap (suc j)) refl
        ∙ ap₂ (leaf? j) (ap (child j (below (suc j) k s p)) (digit-child j p) ∙ sym (below-child j h)) (rest-rest j (suc j) p (omega arith)))

    -- a bit of the leaf word
    pub leaf-below : leaf? k s p ≡ bit (own (below 0 k s p)) (p % 16)
    unfolding leaf? cap
    leaf-below = leaf-in-below 0 (omega arith)
