-- The test of a map's truth, one child after the other. Assumes nothing.
use mathlib.Core.Path.{◌≡◌, refl, sym, ◌∙◌}
use mathlib.Core.Bool.{Bool, true, false, not, ◌&&◌, beq, and-false}
use mathlib.Core.List.{List}
use Prim.Native.Nat.{ℕ, suc}
use borrow.Author.Tests.{not-true, not-false}
use Rattle.words.specs.Search.{all}
use Rattle.words.specs.Bits.{bit, some}
use Rattle.words.specs.Tree.{own, child, same, true?}

-- child i of level j is true, and its summary bit is right
unfoldable pub right : ℕ → List ℕ → ℕ → Bool
right j s i = same (bit (own s) i) (some (own (child j s i))) && true? j (child j s i)

-- a leaf word is true
pub true-leaf : {k : ℕ} (s : List ℕ) → k ≡ 0 → true? k s ≡ true
unfolding true?
true-leaf s e = rw e

-- a map is true where all its children are right
pub true-node : {k j : ℕ} (s : List ℕ) → suc j ≡ k → true? k s ≡ all (right j s) 0 16
unfolding true? right
true-node s up = rw (← up)

-- ---- as the code asks it of child i, whose words are x: b is the summary bit, and r the answer for the child

pub beq-same : (a b : Bool) → beq a b ≡ same a b
beq-same true true = refl
beq-same true false = refl
beq-same false true = refl
beq-same false false = refl

module _ (j : ℕ) (s x : List ℕ) (i : ℕ) (is : x ≡ child j s i) where
  pub wrong-bit : {b : Bool} → b ≡ bit (own s) i → not (beq b (some (own x))) ≡ true → right j s i ≡ false
  unfolding right
  wrong-bit {b} eb w = rw (← eb, ← is, sym (beq-same b (some (own x))) ∙ not-true _ w)

  pub wrong-child : {r : Bool} → r ≡ true? j x → not r ≡ true → right j s i ≡ false
  unfolding right
  wrong-child er w = rw (← is, sym er ∙ not-true _ w, and-false)

  pub both-right : {b r : Bool} → b ≡ bit (own s) i → not (beq b (some (own x))) ≡ false → r ≡ true? j x → not r ≡ false → right j s i ≡ true
  unfolding right
  both-right {b} eb w er v = rw (← eb, ← is, sym (beq-same b (some (own x))) ∙ not-false _ w, sym er ∙ not-false _ v)
