-- `tour::show::words` is safe: no more words are counted than were looked at. Assumes nothing.
use Rattle.std.proofs.Common.{◌≤◌}
use Rattle.tour.proofs.show.words.Given as goal

abbrev pub invariant-loop-i : goal.invariant-loop-i
invariant-loop-i g l = l.some ≤ l.i-counter
