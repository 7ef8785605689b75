-- `tour::read_full`: each read fills the room that is left or less. Assumes nothing.
use Rattle.std.proofs.Common.{◌≡◌, ◌-◌, ◌≤◌, length}
use Rattle.tour.proofs.read_full.Given as goal

abbrev pub invariant-loop-have : goal.invariant-loop-have
invariant-loop-have l = (length l.to ≡ length l.initial.to) × (l.have ≤ length l.to)

abbrev pub decreases-loop-have : goal.decreases-loop-have
decreases-loop-have l = length l.to - l.have
