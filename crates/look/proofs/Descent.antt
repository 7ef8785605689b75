-- The way down that a take goes, by the lowest set bit of each word. Assumes nothing.
use mathlib.Core.Path.{◌≡◌, refl, sym, ap, ap₂, ◌∙◌}
use mathlib.Core.List.{List}
use Prim.Native.Nat.{ℕ, zero, suc, ◌+◌, ◌*◌, ◌/◌, ◌%◌, ◌<◌, ◌≤◌}
use native.Mathlib.Nat.{zero-add, zero-mul, add-mul, mul_comm, mul_assoc, mul_left_comm, mul-div_cancel, div-div-eq-div-mul, lt-div-mul-add, le-mul_of_pos_right}
use native.Mathlib.Omega.{arith}
use borrow.Author.Tests.{lt-ltb, le-ltb}
use lib.ListN.{length, take, drop, get_or}
use Rattle.words.specs.Bits.{bit, lowest_bit}
use Rattle.words.specs.Sizes.{words, cap}
use Rattle.words.specs.Tree.{own, child}
use Rattle.words.specs.Place.{leaf_place, on_way}
use Rattle.words.specs.Take.{lowest}
use Rattle.words.proofs.Search.{first-is}
use Rattle.words.proofs.Levels.{cap-node, cap-pos, cap-small, words-small}
use Rattle.words.proofs.Rows.{part-within}
use Rattle.words.proofs.OnWay.{on-own, on-leaf, on-up, on-lt, below, on-word, below-own, below-child}
use Rattle.words.proofs.Path.{child-position}

-- ---- the position that the lowest set bits lead to, by the own word and the child that its lowest bit names

-- an own word with no bit
lowest-none : (k : ℕ) (s : List ℕ) {i : ℕ} → i ≡ lowest_bit (own s) → 16 ≤ i → lowest k s ≡ cap k
unfolding lowest cap
lowest-none zero s e h = omega (arith, first-is (bit (own s)) 0 16 16 (omega arith))
lowest-none (suc k) s e h = rw (← e, le-ltb _ _ h)

-- a leaf word
lowest-leaf : {k : ℕ} (s : List ℕ) → k ≡ 0 → lowest k s ≡ lowest_bit (own s)
unfolding lowest
lowest-leaf s e = rw e

-- the child i that the lowest bit names, in which q is the position
module _ {k j : ℕ} (s : List ℕ) (i q : ℕ) (up : suc j ≡ k) (ei : i ≡ lowest_bit (own s)) (at : i < 16) (eq : q ≡ lowest j (child j s i)) where
  lowest-past : cap j ≤ q → lowest k s ≡ cap k
  unfolding lowest cap
  lowest-past h = rw (← up, ← ei, lt-ltb i 16 at, ← eq, le-ltb q (cap j) h)

  lowest-found : q < cap j → lowest k s ≡ i * cap j + q
  unfolding lowest
  lowest-found h = rw (← up, ← ei, lt-ltb i 16 at, ← eq, lt-ltb q (cap j) h)

-- ---- a map's parts of level j, each by its number p

module _ (j p i : ℕ) where
  -- child i of part p of the level above is part 16 * p + i
  part-start : (16 * p + i) * cap j ≡ p * cap (suc j) + i * cap j
  unfolding cap
  part-start = omega (arith, add-mul (16 * p) i (cap j), mul_assoc 16 p (cap j), mul_left_comm p 16 (cap j))

  -- its positions
  part-up : i < 16 → (q : ℕ) → q / cap j ≡ 16 * p + i → (q / cap (suc j) ≡ p) × (q / cap j % 16 ≡ i)
  unfolding cap
  part-up l q e =
      let above : q / cap j / 16 ≡ p = omega arith in
      (ap (λ (n : ℕ). q / n) (mul_comm 16 (cap j)) ∙ sym (div-div-eq-div-mul q (cap j) 16) ∙ above, omega arith)

-- ---- a map on the way

-- the lowest set bits of the map s of level k lead to its part of level j that begins at the word `at`, the one of the positions
-- from p * cap j on; the position that they lead to is the part's, and past the map where the part has none
pub record Way (k : ℕ) (s : List ℕ) (j at p : ℕ) : Type 0 where
  pub upto : j ≤ k
  pub within : p * cap j + cap j ≤ cap k
  pub stands : (q : ℕ) → q / cap j ≡ p → on_way j k q ≡ at
  pub found : (q : ℕ) → q ≡ lowest j (below j k s (p * cap j)) → q < cap j → lowest k s ≡ p * cap j + q
  pub past : lowest j (below j k s (p * cap j)) ≡ cap j → lowest k s ≡ cap k

-- the map itself
pub way-start : (k : ℕ) (s : List ℕ) → length s ≡ words k → Way k s k 0 0
way-start k s len =
    let whole = below-own k s (0 * cap k) len in
    record {
      upto = omega arith;
      within = omega (arith, zero-mul (cap k));
      stands = λ q _. on-own k q;
      found = λ q e l. sym (e ∙ ap (lowest k) whole) ∙ sym (rw zero-mul (zero-add q));
      past = λ h. rw whole at h;
    }

module _ {k : ℕ} {s : List ℕ} {j at p : ℕ} (h : Way k s j at p) where
  first : on_way j k (p * cap j) ≡ at
  first = h.stands (p * cap j) (mul-div_cancel p (cap-pos j))

  -- its own word
  way-own : get_or s at 0 ≡ own (below j k s (p * cap j))
  way-own = ap (λ (m : ℕ). get_or s m 0) (sym first) ∙ on-word j k s (p * cap j)

  -- its words, by any of its positions
  way-below : (q : ℕ) → q / cap j ≡ p → below j k s q ≡ below j k s (p * cap j)
  unfolding below
  way-below q e = ap (λ (m : ℕ). take (words j) (drop m s)) (h.stands q e ∙ sym first)

  -- it begins in the map
  pub way-at : at < words k
  way-at = rw first at (on-lt j k (p * cap j) h.upto (omega (arith, h.within, cap-pos j)))

  -- both numbers are small
  pub way-small : k ≤ 6 → (p ≤ 268435456) × (at < 17895697)
  way-small l = (omega (arith, le-mul_of_pos_right p (cap-pos j), h.within, cap-small k l), omega (arith, way-at, words-small k l))

  -- a part whose own word has no bit has no position
  pub way-lost : 16 ≤ lowest_bit (get_or s at 0) → lowest k s ≡ cap k
  way-lost l = h.past (lowest-none j (below j k s (p * cap j)) (ap lowest_bit way-own) l)

-- the child i that the lowest bit of its own word names
module _ {k : ℕ} {s : List ℕ} {j m at p : ℕ} (len : length s ≡ words k) (up : suc j ≡ m) (h : Way k s m at p)
    {i n : ℕ} (ei : i ≡ lowest_bit (get_or s at 0)) (l : i < 16) (en : n ≡ words j) where
  whole : Way k s (suc j) at p
  whole = rw up h

  abbrev above : List ℕ
  above = below (suc j) k s (p * cap (suc j))

  bit-is : i ≡ lowest_bit (own above)
  bit-is = ei ∙ ap lowest_bit (way-own whole)

  within : (16 * p + i) * cap j + cap j ≤ cap k
  within = omega (arith, part-start j p i, cap-node j, part-within i (cap j) l, whole.within)

  inside : (q : ℕ) → q / cap j ≡ 16 * p + i → q < cap k
  inside q e = omega (arith, lt-div-mul-add {a = q} (cap-pos j), ap (λ (n : ℕ). n * cap j) e, within)

  child-is : below j k s ((16 * p + i) * cap j) ≡ child j above i
  child-is =
      let q = (16 * p + i) * cap j in
      let e = mul-div_cancel (16 * p + i) (cap-pos j) in
      let r = part-up j p i l q e in
      below-child k s q len (inside q e) j (omega (arith, h.upto)) ∙ ap₂ (child j) (way-below whole q r.0) r.1

  pub way-down : Way k s j (at + 1 + i * n) (16 * p + i)
  way-down = record {
    upto = omega (arith, h.upto);
    within = within;
    stands = λ q e.
        let r = part-up j p i l q e in
        omega (arith, on-up j k q (omega (arith, h.upto)), whole.stands q r.0, ap₂ ◌*◌ r.1 (sym en));
    found = λ q e b.
        let is = lowest-found above i q refl bit-is l (e ∙ ap (lowest j) child-is) b in
        omega (arith, whole.found (i * cap j + q) (sym is) (child-position j i q l b), part-start j p i);
    past = λ b. whole.past (lowest-past above i _ refl bit-is l (ap (lowest j) child-is) (omega arith));
  }

-- a leaf word and its lowest bit i
module _ {k : ℕ} {s : List ℕ} {j at p : ℕ} (z : j ≡ 0) (h : Way k s j at p) {i : ℕ} (ei : i ≡ lowest_bit (get_or s at 0)) (l : i < 16) where
  leaf : Way k s 0 at p
  leaf = rw (← z) h

  pub way-end : (16 * p + i < cap k) × (lowest k s ≡ 16 * p + i) × (at ≡ leaf_place k (16 * p + i))
  unfolding cap
  way-end =
      let is = ei ∙ ap lowest_bit (way-own leaf) ∙ sym (lowest-leaf (below 0 k s (p * 16)) refl) in
      (omega (arith, leaf.within), omega (arith, leaf.found i is l), sym (leaf.stands (16 * p + i) (omega arith)) ∙ on-leaf k (16 * p + i))
