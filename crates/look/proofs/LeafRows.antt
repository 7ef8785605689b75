-- Leaf words that stand side by side: their bits are leaf bits of a map, and those of one word are its own. Assumes nothing.
use mathlib.Core.Path.{◌≡◌, sym, ap, ap₂, ◌∙◌}
use mathlib.Core.Bool.{true, false}
use mathlib.Core.List.{List}
use Prim.Native.Nat.{ℕ, zero, suc, ◌+◌, ◌-◌, ◌*◌, ◌/◌, ◌%◌, min, ◌<◌, ◌≤◌}
use native.Mathlib.Omega.{arith}
use lib.Bits.{and_mask}
use lib.ListN.{length, get_or, take, drop, length-take, length-drop}
use lib.Seq.{get_or-take, get_or-drop}
use Rattle.words.specs.Search.{none}
use Rattle.words.specs.Bits.{bit}
use Rattle.words.specs.Sizes.{words, cap}
use Rattle.words.specs.Tree.{leaf?}
use Rattle.words.specs.Place.{leaf_place, row_bit}
use Rattle.words.proofs.Search.{none-no, none-on, none-shift}
use Rattle.words.proofs.OnWay.{leaf-place-lt}
use Rattle.words.proofs.Index.{passed, place-passed, leaf-stored}

-- ---- the bits of word i of a row

row-word : (s : List ℕ) (at i a b : ℕ) → a ≤ b → b ≤ 16 → none (row_bit s at) (16 * i + a) (16 * i + b) ≡ none (bit (get_or s (at + i) 0)) a b
unfolding row_bit
row-word s at i a b le small =
    none-shift (row_bit s at) (bit (get_or s (at + i) 0)) (16 * i) a b le (λ q l u.
    let word : (16 * i + q) / 16 ≡ i = omega arith in
    let rest : (16 * i + q) % 16 ≡ q = omega arith in
    rw (word, rest))

-- ---- the pass over a row, for the bits from a up to b, the last of them in word m

-- the words before word m, as they are lent
abbrev pub before : List ℕ → ℕ → ℕ → List ℕ
before s at m = take (at + m - at) (drop at s)

-- it comes to bit l of word i
pub record Comes (s : List ℕ) (at a b m i l : ℕ) : Type 0 where
  pub last : m ≡ (b - 1) / 16
  pub stored : at + m ≤ length s
  pub upto : i ≤ m
  pub low : l < 16
  pub inside : 16 * i + l < b
  pub rest : none (row_bit s at) (16 * i + l) b ≡ none (row_bit s at) a b

pub comes-start : (s : List ℕ) (at a b : ℕ) {m : ℕ} → m ≡ (b - 1) / cap 0 → a < 16 → a < b → at * 16 + b ≤ length s * 16 → Comes s at a b m 0 a
unfolding cap
comes-start s at a b e low some stored =
    let zero-first : 16 * 0 + a ≡ a = omega arith in
    record { last = e; stored = omega arith; upto = omega arith; low = low; inside = omega arith; rest = ap (λ (x : ℕ). none (row_bit s at) x b) zero-first }

module _ {s : List ℕ} {at a b m i l : ℕ} (h : Comes s at a b m i l) where
  length-before : length (before s at m) ≡ m
  length-before = let stored = h.stored in simp (length-take, length-drop) (omega arith)

  -- a word before the last
  module _ (lt : i < length (before s at m)) where
    word : get_or (before s at m) i 0 ≡ get_or s (at + i) 0
    word = get_or-take (at + m - at) (drop at s) i 0 (omega (arith, length-before)) ∙ get_or-drop at s i 0

    bits : none (row_bit s at) (16 * i + l) (16 * i + 16) ≡ none (bit (get_or (before s at m) i 0)) l 16
    bits = rw word (row-word s at i l 16 (omega (arith, h.low)) (omega arith))

    -- a bit of it is set
    pub comes-no : none (bit (get_or (before s at m) i 0)) l 16 ≡ false → false ≡ none (row_bit s at) a b
    comes-no e =
        sym (none-no (row_bit s at) (16 * i + l) (16 * i + 16) b (omega (arith, h.low)) (omega (arith, h.last, length-before)) (bits ∙ e))
        ∙ h.rest

    -- or none is
    pub comes-next : none (bit (get_or (before s at m) i 0)) l 16 ≡ true → Comes s at a b m (i + 1) 0
    comes-next e =
        let up : 16 * (i + 1) + 0 ≡ 16 * i + 16 = omega arith in record {
          last = h.last;
          stored = h.stored;
          upto = omega (arith, length-before);
          low = omega arith;
          inside = omega (arith, h.last, length-before);
          rest = ap (λ (x : ℕ). none (row_bit s at) x b) up
              ∙ sym (none-on (row_bit s at) (16 * i + l) (16 * i + 16) b (omega (arith, h.low)) (omega (arith, h.last, length-before)) (bits ∙ e))
              ∙ h.rest;
        }

  -- the last word, which starts at x
  module _ (le : length (before s at m) ≤ i) {x : ℕ} (e : x ≡ m * cap 0) where
    here : m ≡ i
    here = omega (arith, length-before, h.upto)

    start-is : x ≡ 16 * i
    unfolding cap
    start-is = omega (arith, here)

    pub comes-in : (x ≤ b) × (l ≤ b - x) × (b - x ≤ 16)
    comes-in = omega (arith, start-is, h.inside, here, h.last)

    pub comes-last : none (bit (get_or s (at + m) 0)) l (b - x) ≡ none (row_bit s at) a b
    comes-last =
        let c = comes-in in
        let end : 16 * i + (b - 16 * i) ≡ b = omega (arith, h.inside) in
        rw (start-is, here) (sym (row-word s at i l (b - 16 * i) (omega (arith, c, start-is)) (omega (arith, c, start-is))) ∙ ap (none (row_bit s at) (16 * i + l)) end ∙ h.rest)

-- ---- the leaf words of 256 positions are a row

passed-row : (k p q : ℕ) → p < cap k → q < cap k → p / 256 ≡ q / 256 → passed k q + p / 16 ≡ passed k p + q / 16
unfolding passed cap
passed-row zero p q l m e = omega arith
passed-row (suc zero) p q l m e = omega arith
passed-row (suc (suc k)) p q l m e =
    let same : q / 16 / 16 ≡ p / 16 / 16 = omega arith in
    omega (arith, ap (passed k) same)

place-row : (k p q : ℕ) → p < cap k → q < cap k → p / 256 ≡ q / 256 → leaf_place k q + p / 16 ≡ leaf_place k p + q / 16
place-row k p q l m e = omega (arith, place-passed k p l, place-passed k q m, passed-row k p q l m e)

-- the positions from p up to e have their leaf words in a row, and l is the bit of p in the first of them
pub record InRow (k p e l : ℕ) : Type 0 where
  pub some : p < e
  pub ends : e ≤ cap k
  pub row : e ≤ p - p % 256 + 256
  pub low : l ≡ p % 16

-- up to the border of 256 positions, or up to b
pub in-row : (k p b : ℕ) {l r e : ℕ} → p < b → b ≤ cap k → l ≡ p % cap 0 → r ≡ p % cap 1 → e ≡ min (p - r + 256) b → InRow k p e l × (e ≤ b)
unfolding cap
in-row k p b lt small el er ee = (record { some = omega arith; ends = omega arith; row = omega arith; low = el }, omega arith)

module _ {k p e l at : ℕ} (s : List ℕ) (h : InRow k p e l) (is : at ≡ leaf_place k p) (len : length s ≡ words k) where
  -- what is asked of the pass over the row
  pub row-asks : (l < 16) × (l < l + (e - p)) × (l + (e - p) ≤ 256) × (at * 16 + (l + (e - p)) ≤ length s * 16)
  row-asks = omega (arith, place-row k p (e - 1) (omega arith) (omega arith) (omega arith), leaf-place-lt k (e - 1) (omega arith))

  -- what it says
  pub row-says : none (row_bit s at) l (l + (e - p)) ≡ none (leaf? k s) p e
  unfolding row_bit
  row-says =
      let d = p - p % 16 in
      let start : p ≡ d + l = omega arith in
      let end : e ≡ d + (l + (e - p)) = omega arith in
      sym
      (ap₂ (none (leaf? k s)) start end
      ∙ none-shift (leaf? k s) (row_bit s at) d l (l + (e - p)) (omega arith) (λ q m u.
      let word : leaf_place k (d + q) ≡ at + q / 16 = omega (arith, place-row k p (d + q) (omega arith) (omega arith) (omega arith)) in
      let rest : (d + q) % 16 ≡ q % 16 = omega arith in
      leaf-stored k s (d + q) len (omega arith) ∙ ap₂ (λ (w i : ℕ). bit (get_or s w 0) i) word (and_mask (d + q) 4 ∙ rest)))
