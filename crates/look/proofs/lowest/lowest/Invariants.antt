-- `look::lowest::lowest` meets its contract. The loop's invariant: the lowest set bits lead to the part of level j that begins at the word
-- `at` (`Way`). Assumes nothing.
use Rattle.look.proofs.Descent.{Way}
use Rattle.look.proofs.lowest.lowest.Given as goal

abbrev pub invariant-loop-j : goal.invariant-loop-j
invariant-loop-j l = Way l.k l.s l.j l.at l.p
