-- `image_tour::beginnings_of` is safe: no more beginnings are counted than were looked at. Assumes nothing.
use Rattle.std.proofs.Common.{◌≤◌}
use Rattle.image_tour.proofs.beginnings_of.Given as goal

abbrev pub invariant-loop-n : goal.invariant-loop-n
invariant-loop-n g l = l.refused ≤ l.n
