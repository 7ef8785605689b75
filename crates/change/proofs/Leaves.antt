-- The first leaf bit of a run that is set, in a leaf word and by a map's children. Assumes nothing.
use mathlib.Core.Path.{◌≡◌, ◌∙◌}
use mathlib.Core.List.{List}
use Prim.Native.Nat.{ℕ, suc, ◌-◌, ◌*◌, min, ◌<◌, ◌≤◌}
use native.Mathlib.Omega.{arith}
use Rattle.words.specs.Search.{first_from}
use Rattle.words.specs.Bits.{bit}
use Rattle.words.specs.Sizes.{cap}
use Rattle.words.specs.Tree.{own, child, leaf?}
use Rattle.change.specs.Change.{low, high}
use Rattle.change.specs.GiveBack.{first_leaf}
use Rattle.words.proofs.Search.{First, first-is}
use Rattle.change.proofs.Spans.{first-in}
use Rattle.words.proofs.Path.{leaf-in}

-- what the first leaf bit of a run is
pub first-leaf : (k : ℕ) (s : List ℕ) (a b : ℕ) → a ≤ b → First (leaf? k s) a b (first_leaf k s a b)
first-leaf k s a b l = first-is (leaf? k s) a (b - a) b (omega arith)

-- in a leaf word
pub first-word : {k : ℕ} (s : List ℕ) (a b : ℕ) → k ≡ 0 → first_leaf k s a b ≡ first_from (bit (own s)) a (b - a)
unfolding leaf?
first-word s a b z = rw z

-- in a child that has some of the run, and before which none is set: that of the run, or the end of the child's part
pub first-part : (k : ℕ) (s : List ℕ) (a b i : ℕ) → a ≤ b → low (cap k) a i < high (cap k) b i → i * cap k ≤ first_leaf (suc k) s a b
    → first_leaf k (child k s i) (low (cap k) a i) (high (cap k) b i) ≡ min (high (cap k) b i) (first_leaf (suc k) s a b - i * cap k)
first-part k s a b i le v m = first-in (leaf? (suc k) s) (leaf? k (child k s i)) (cap k) a b i le v (leaf-in k s i) m

-- where none of the run is set, none of the child's part is
pub first-none : (k : ℕ) (s : List ℕ) (a b i : ℕ) → a ≤ b → low (cap k) a i < high (cap k) b i → first_leaf (suc k) s a b ≡ b
    → first_leaf k (child k s i) (low (cap k) a i) (high (cap k) b i) ≡ high (cap k) b i
unfolding low high
first-none k s a b i le v f =
    let end : min (high (cap k) b i) (first_leaf (suc k) s a b - i * cap k) ≡ high (cap k) b i = omega arith in
    first-part k s a b i le v (omega arith) ∙ end
