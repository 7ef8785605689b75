-- `line::run`: what is done is a part of what has come, and that a part of the input; each turn brings more. Assumes nothing.
use Rattle.std.proofs.Common.{◌≡◌, ◌-◌, ◌≤◌, length}
use Rattle.line.proofs.run.Given as goal

abbrev pub invariant-loop-have : goal.invariant-loop-have
invariant-loop-have l = (length l.input ≡ length l.initial.input) × (l.have ≤ length l.input) × (l.done ≤ l.have)

abbrev pub decreases-loop-have : goal.decreases-loop-have
decreases-loop-have l = length l.input - l.have
