-- The cycle of calls {check}: each child is checked, and its level is the measure. The loop's invariant: the test of the children from i
-- on says what the test of all says. Assumes nothing.
use Rattle.std.proofs.Common.{◌≡◌, ◌-◌}
use Rattle.words.specs.Search.{all}
use Rattle.words.specs.Tree.{true?}
use Rattle.look.proofs.Checked.{right}
use Rattle.look.proofs.check.+check.Given as goal

abbrev pub decreases-check : goal.decreases-check
decreases-check l = l.k

abbrev pub invariant-loop-i : goal.invariant-loop-i
invariant-loop-i l = all (right (l.k - 1) l.s) l.i (16 - l.i) ≡ true? l.k l.s
