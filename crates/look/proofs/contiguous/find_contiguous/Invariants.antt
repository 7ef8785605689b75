-- `look::contiguous::find_contiguous` meets its contract: no run stands below `at` (`Sought`), and each step of a turn goes on to where
-- one still may. The measure is what is left of the positions. Assumes nothing.
use Prim.Native.Nat.{◌-◌}
use Rattle.words.specs.Sizes as sizes
use Rattle.words.specs.Tree.{free?}
use Rattle.look.proofs.Runs as runs
use Rattle.look.proofs.contiguous.find_contiguous.Given as goal

abbrev pub invariant-loop-at : goal.invariant-loop-at
invariant-loop-at l = runs.Sought (free? l.k l.s) (sizes.cap l.k) l.size l.align_log2 l.at

abbrev pub decreases-loop-at : goal.decreases-loop-at
decreases-loop-at l = l.cap - l.at
