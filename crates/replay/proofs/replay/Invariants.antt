-- `replay::replay`: each line has a byte at least, so there are no more than fit, and no more differ. Assumes nothing.
use Rattle.std.proofs.Common.{◌+◌, ◌≤◌, length}
use Rattle.std.specs.Slice.Iter.{split_inclusive_rest}
use Rattle.replay.proofs.replay.Given as goal

abbrev pub invariant-loop-line : goal.invariant-loop-line
invariant-loop-line l =
    (l.operations + length (split_inclusive_rest l.line-iterator) ≤ length l.input) × (l.differences ≤ l.operations)
