-- How a look-up in a map goes by its children: those whose summary bit is 0 are passed over, and one that is gone into has the answer
-- or not. Assumes nothing.
use mathlib.Core.Path.{◌≡◌, sym, ap, ◌∙◌}
use mathlib.Core.Bool.{true, false, ◌&&◌}
use mathlib.Core.List.{List}
use Prim.Native.Nat.{ℕ, suc, ◌+◌, ◌-◌, ◌*◌, ◌/◌, ◌%◌, ◌≤◌, ◌<◌}
use native.Mathlib.Nat.{suc-mul, mod-lt, mul-le-mul_right, div-add-mod', div-lt_iff_lt-mul, le-div_iff_mul-le}
use native.Mathlib.Numerals.{add-one}
use native.Mathlib.Omega.{arith}
use lib.Arith.{digits_div, digits_mod}
use Rattle.std.specs.Prelude.{Option, Some, None}
use Rattle.words.specs.declared.kind.Change.TheVariants.{Remove}
use Rattle.words.specs.Search.{first_from}
use Rattle.words.specs.Below.{below}
use Rattle.words.specs.Bits.{bit, change_word, lowest_bit}
use Rattle.words.specs.Sizes.{cap}
use Rattle.words.specs.Tree.{own, child, free?}
use Rattle.words.specs.Run.{next_in}
use Rattle.words.proofs.Search.{First, first-is, first-ext, first-skip, first-cut, first-rest, first-shift, first-end}
use Rattle.words.proofs.Below.{below-some, below-none, below-found, below-missing}
use Rattle.words.proofs.Words.{lowest-from}
use Rattle.words.proofs.Levels.{cap-node, cap-pos}
use Rattle.words.proofs.Rows.{part-within}
use Rattle.words.proofs.Path.{position-child, child-position}

-- a position of child i
pub free-in : (k : ℕ) (s : List ℕ) (i q : ℕ) → q < cap k → free? (suc k) s (i * cap k + q) ≡ (bit (own s) i && free? k (child k s i) q)
unfolding free?
free-in k s i q h = rw (digits_div i h, digits_mod i h)

-- no position is seen in a child whose summary bit is 0
free-not : (k : ℕ) (s : List ℕ) (p : ℕ) → bit (own s) (p / cap k) ≡ false → free? (suc k) s p ≡ false
unfolding free?
free-not k s p h = rw h

-- the answer of a look-up
abbrev pub found : ℕ → List ℕ → ℕ → Option ℕ
found k s p = below (cap k) (next_in (free? k s) (cap k) p)

-- for a leaf word, and for a map by the level of its children
pub found-leaf : {k : ℕ} (s : List ℕ) (key : ℕ) → k ≡ 0 → below 16 (first_from (bit (own s)) key (16 - key)) ≡ found k s key
unfolding cap free?
found-leaf s key e = rw e

pub found-node : {k j : ℕ} (s : List ℕ) (key : ℕ) → suc j ≡ k → found (suc j) s key ≡ found k s key
found-node s key up = rw up

-- the next set bit of a word from i on is the lowest once those below i are cleared
pub next-bit : (w : ℕ) {v i at : ℕ} → i ≤ 16 → v ≡ change_word Remove w 0 i → at ≡ lowest_bit v → First (bit w) i 16 at
next-bit w {i = i} h ev ea = rw (ea, ev, lowest-from w i h) (first-is (bit w) i (16 - i) 16 (omega arith))

-- ---- where a position is

-- position p is r positions into child i
pub record Stands (j p i r : ℕ) : Type 0 where
  pub at : i < 16
  pub into : r < cap j
  pub whole : i * cap j + r ≡ p

-- each position of a map is in a child
pub stands : {k j i : ℕ} (p : ℕ) → suc j ≡ k → p < cap k → i ≡ p / cap j → Stands j p i (p % cap j)
stands {j = j} p up l e = rw e (record { at = position-child p up l; into = mod-lt p (cap-pos j); whole = div-add-mod' p (cap j) })

-- and a child's first position is 0 into it
stands-start : {j : ℕ} (i : ℕ) → i < 16 → Stands j (i * cap j) i 0
stands-start {j} i l = record { at = l; into = cap-pos j; whole = omega arith }

-- ---- the look-up from a position on

module _ (j : ℕ) (s : List ℕ) where
  abbrev next_from : ℕ → ℕ
  next_from p = next_in (free? (suc j) s) (cap (suc j)) p

  -- `at` is the next summary bit that is set, from i on
  module _ {i at : ℕ} (h : First (bit (own s)) i 16 at) where
    -- the children before it are passed over
    next-skip : next_from (i * cap j) ≡ next_from (at * cap j)
    next-skip =
        first-skip (free? (suc j) s) (i * cap j) (at * cap j) (cap (suc j)) (mul-le-mul_right (cap j) h.from) (rw (cap-node j) (mul-le-mul_right (cap j) h.upto))
        (λ p l u. free-not j s p (h.before (p / cap j) ((le-div_iff_mul-le (cap-pos j)).1 l) ((div-lt_iff_lt-mul (cap-pos j)).1 u)))

    -- all of them, where there is none
    pub children-none : 16 ≤ at → None ≡ found (suc j) s (i * cap j)
    children-none l =
        let last : at ≡ 16 = omega (arith, h.upto) in
        let none : next_from (i * cap j) ≡ 16 * cap j =
        next-skip ∙ rw last (first-end (free? (suc j) s) (16 * cap j) (cap (suc j)) (omega (arith, cap-node j))) in
        below-none (omega (arith, none, cap-node j))

  -- from p on, which is r positions into child i
  module _ {p i r : ℕ} (h : Stands j p i r) where
    -- the next child starts where this one ends, and within the map
    ends : (i + 1) * cap j ≡ i * cap j + cap j
    ends = rw (add-one, suc-mul)

    ends-in : (i + 1) * cap j ≤ cap (suc j)
    ends-in = rw (ends, cap-node j) (part-within i (cap j) h.at)

    before : p ≤ (i + 1) * cap j
    before = omega (arith, ends, h.into, h.whole)

    -- child i is not seen
    unseen : bit (own s) i ≡ false → next_from p ≡ next_from ((i + 1) * cap j)
    unseen b = first-skip (free? (suc j) s) p ((i + 1) * cap j) (cap (suc j)) before ends-in
        (λ q l u.
        let from : i ≤ q / cap j = (le-div_iff_mul-le (cap-pos j)).1 (omega (arith, h.whole)) in
        let to : q / cap j < i + 1 = (div-lt_iff_lt-mul (cap-pos j)).1 u in
        let here : q / cap j ≡ i = omega arith in
        free-not j s q (ap (bit (own s)) here ∙ b))

    pub stands-unseen : bit (own s) i ≡ false → found (suc j) s ((i + 1) * cap j) ≡ found (suc j) s p
    stands-unseen b = ap (below (cap (suc j))) (sym (unseen b))

    -- it is seen
    module _ (b : bit (own s) i ≡ true) where
      abbrev inner : ℕ
      inner = next_in (free? j (child j s i)) (cap j) r

      in-child : first_from (free? (suc j) s) p ((i + 1) * cap j - p) ≡ i * cap j + inner
      in-child =
          let n : (i + 1) * cap j - (i * cap j + r) ≡ cap j - r = omega (arith, ends) in
          rw (← h.whole, n)
          (first-shift (free? (suc j) s) (i * cap j) r (cap j - r)
          ∙ ap (λ (x : ℕ). i * cap j + x)
          (first-ext (λ x. free? (suc j) s (i * cap j + x)) (free? j (child j s i)) r (cap j - r) (λ x m u. rw (free-in j s i x (omega (arith, h.into)), b))))

      -- a position is found in it
      hit : inner < cap j → next_from p ≡ i * cap j + inner
      hit l = first-cut (free? (suc j) s) p ((i + 1) * cap j) (cap (suc j)) before ends-in (rw in-child (omega (arith, ends))) ∙ in-child

      pub stands-hit : {q : ℕ} → Some q ≡ found j (child j s i) r → Some (i * cap j + q) ≡ found (suc j) s p
      stands-hit e =
          let is = below-found e in
          rw (hit (omega arith), ← is.0) (below-some (child-position j i _ h.at is.1))

      -- or none is
      pub stands-miss : None ≡ found j (child j s i) r → found (suc j) s ((i + 1) * cap j) ≡ found (suc j) s p
      stands-miss e =
          let l : cap j ≤ inner = below-missing e in
          ap (below (cap (suc j))) (sym
          (first-rest (free? (suc j) s) p ((i + 1) * cap j) (cap (suc j)) before ends-in (rw in-child (omega (arith, ends)))))

  -- from the start of child i on, where `at` is the next child that is seen
  module _ {i at : ℕ} (h : First (bit (own s)) i 16 at) (l : at < 16) where
    skip : found (suc j) s (at * cap j) ≡ found (suc j) s (i * cap j)
    skip = ap (below (cap (suc j))) (sym (next-skip h))

    pub children-hit : {q : ℕ} → Some q ≡ found j (child j s at) 0 → Some (at * cap j + q) ≡ found (suc j) s (i * cap j)
    children-hit e = stands-hit (stands-start at l) (h.here l) e ∙ skip

    pub children-miss : None ≡ found j (child j s at) 0 → found (suc j) s ((at + 1) * cap j) ≡ found (suc j) s (i * cap j)
    children-miss e = stands-miss (stands-start at l) (h.here l) e ∙ skip

    -- the same as a number
    pub next-hit : (let q = next_in (free? j (child j s at)) (cap j) 0 in q < cap j → next_from (i * cap j) ≡ at * cap j + q)
    next-hit m = next-skip h ∙ hit (stands-start at l) (h.here l) m
