-- `look::leaf::all_taken` meets its contract. The loop's invariant: what is asked of the run is asked of its rest from p on. The measure
-- is what is left of the run. Assumes nothing.
use mathlib.Core.Path.{◌≡◌}
use Prim.Native.Nat.{◌-◌, ◌≤◌}
use Rattle.words.specs.Search.{none}
use Rattle.words.specs.Tree.{leaf?}
use Rattle.look.proofs.leaf.all_taken.Given as goal

abbrev pub invariant-loop-p : goal.invariant-loop-p
invariant-loop-p l = (l.p ≤ l.b) × (none (leaf? l.k l.s) l.p l.b ≡ none (leaf? l.k l.s) l.a l.b)

abbrev pub decreases-loop-p : goal.decreases-loop-p
decreases-loop-p l = l.b - l.p
