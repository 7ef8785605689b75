-- A loop from the leaf word of a position up, which stores the bit of each child that is changed, as mathematics. Assumes nothing.
use mathlib.Core.Path.{◌≡◌, refl, sym, ap, ap₂, ◌∙◌}
use mathlib.Core.Bool.{Bool, cond}
use mathlib.Core.List.{List}
use Prim.Native.Nat.{ℕ, suc, ◌+◌, ◌-◌, ◌*◌, ◌/◌, ◌%◌, ◌^◌, ◌<◌, ◌≤◌}
use native.Mathlib.Numerals.{add-one}
use native.Mathlib.Omega.{arith}
use lib.ListN.{length, set, get_or}
use lib.Dec.{eqb}
use Rattle.words.specs.declared.kind.Change.{Change}
use Rattle.words.specs.Bits.{bit, word_of, some, frees}
use Rattle.words.specs.Sizes.{words, cap}
use Rattle.words.specs.Place.{leaf_place, on_way}
use Rattle.words.specs.Tree.{own}
use Rattle.change.specs.Change.{change}
use Rattle.words.proofs.Levels.{words-node, words-small}
use Rattle.words.proofs.OnWay.{part-above, on-leaf, on-up, on-lt, below}
use Rattle.change.proofs.Stages.{new_below, stage, length-stage, stage-own, stage-now, stage-leaf, stage-above, stage-up}

-- s₀ is the map at the start; the words s are those of stage j, and `at` is where its word stands
pub record Climbed (c : Change) (k : ℕ) (s₀ : List ℕ) (p at j : ℕ) (s : List ℕ) : Type 0 where
  pub small : k ≤ 6
  pub len : length s₀ ≡ words k
  pub inside : p < cap k
  pub level : j ≤ k
  pub at-is : at ≡ on_way j k p
  pub words_are : s ≡ stage c j k s₀ p

-- the leaf bit q is stored
pub climb-leaf : (c : Change) {k : ℕ} (s : List ℕ) {p leaf q v : ℕ} → k ≤ 6 → length s ≡ words k → p < cap k → leaf ≡ leaf_place k p → q ≡ p % 16
    → v ≡ word_of (λ m. cond (eqb m q) (frees c) (bit (get_or s leaf 0) m)) → Climbed c k s p leaf 0 (set s leaf v)
climb-leaf c {k} s {p} {leaf} {q} {v} small len inside el eq ev = record {
  small = small;
  len = len;
  inside = inside;
  level = omega arith;
  at-is = el ∙ sym (on-leaf k p);
  words_are =
      ap (λ (x : ℕ). set s x v) (el ∙ sym (on-leaf k p))
      ∙ stage-leaf c k s p len inside v (ev ∙ ap₂ (λ (x y : ℕ). word_of (λ m. cond (eqb m x) (frees c) (bit (get_or s y 0) m))) eq (el ∙ sym (on-leaf k p)));
}

module _ {c : Change} {k : ℕ} {s₀ : List ℕ} {p at j : ℕ} {s : List ℕ} (h : Climbed c k s₀ p at j s) where
  -- the words keep their number
  pub climb-length : length s ≡ words k
  climb-length = ap length h.words_are ∙ length-stage c k s₀ p h.len h.inside j h.level

  -- the word there
  pub climb-now : get_or s at 0 ≡ own (new_below c j k s₀ p)
  climb-now = ap₂ (λ (x : List ℕ) (m : ℕ). get_or x m 0) h.words_are h.at-is ∙ stage-now c k s₀ p h.len h.inside j h.level

  -- at the top the change is done
  pub climb-end : k ≤ j → s ≡ change c k s₀ p (p + 1)
  climb-end le =
      let top : j ≡ k = omega (arith, h.level) in
      h.words_are ∙ ap (λ (x : ℕ). stage c x k s₀ p) top ∙ stage-own c k s₀ p h.len h.inside

  -- ---- a turn: to the word above, from child i, where each child has n words
  module _ (l : j < k) {i n : ℕ} (ei : i ≡ p / cap j % 16) (en : n ≡ words j) where
    climb-up : at ≡ on_way (suc j) k p + (1 + i * n)
    climb-up = h.at-is ∙ on-up j k p l ∙ ap₂ (λ (x y : ℕ). on_way (suc j) k p + (1 + x * y)) (sym ei) (sym en)

    -- no number wraps, and the word is one of the map's
    pub climb-fits : (1 + i * n ≤ at) × (at - 1 - i * n < length s) × (at ≤ 17895697)
    climb-fits =
        let lt = on-lt (suc j) k p l h.inside in
        let low = on-lt j k p h.level h.inside in
        omega (arith, climb-up, climb-length, h.at-is, words-small k h.small)

    climb-to : at - 1 - i * n ≡ on_way (suc j) k p
    climb-to = omega (arith, climb-up)

    -- it is as it was at the start
    pub climb-above : get_or s (at - 1 - i * n) 0 ≡ own (below (suc j) k s₀ p)
    climb-above = ap₂ (λ (x : List ℕ) (m : ℕ). get_or x m 0) h.words_are climb-to ∙ stage-above c k s₀ p h.len h.inside j l

    -- the child's bit is stored in it
    pub climb : (b : Bool) (v : ℕ) → b ≡ some (own (new_below c j k s₀ p)) → v ≡ word_of (λ m. cond (eqb m i) b (bit (get_or s (at - 1 - i * n) 0) m))
        → Climbed c k s₀ p (at - 1 - i * n) (j + 1) (set s (at - 1 - i * n) v)
    climb b v eb ev = record {
      small = h.small;
      len = h.len;
      inside = h.inside;
      level = omega arith;
      at-is = rw add-one climb-to;
      words_are = rw add-one
          (ap₂ (λ (x : List ℕ) (m : ℕ). set x m v) h.words_are climb-to
          ∙ stage-up c k s₀ p h.len h.inside j l v
          (ev ∙ ap₂ (λ (x : ℕ) (y : Bool). word_of (λ m. cond (eqb m x) y (bit (get_or s (at - 1 - i * n) 0) m))) ei eb
          ∙ ap (λ (w : ℕ). word_of (λ m. cond (eqb m (p / cap j % 16)) (some (own (new_below c j k s₀ p))) (bit w m))) climb-above));
    }

-- the numbers that go up with it: the part of level j that p is in, and how many words it has
pub record Rising (p j rest size : ℕ) : Type 0 where
  pub rest-is : rest ≡ p / cap j
  pub size_is : size ≡ words j

pub rise-start : (p : ℕ) → Rising p 0 (p / 2 ^ 4) 1
unfolding cap words
rise-start p = record { rest-is = refl; size_is = refl }

module _ {p j rest size : ℕ} (h : Rising p j rest size) where
  pub rise : Rising p (j + 1) (rest / 2 ^ 4) (1 + 16 * size)
  rise = rw add-one (record { rest-is = ap (λ (n : ℕ). n / 16) h.rest-is ∙ part-above j p; size_is = omega (arith, h.size_is, words-node j) })

  -- the child on the way
  pub rise-digit : rest % 16 ≡ p / cap j % 16
  rise-digit = ap (λ (n : ℕ). n % 16) h.rest-is
