-- `look::leaf::row_taken` meets its contract. The loop's invariant is `Comes`. Assumes nothing.
use Rattle.look.proofs.LeafRows.{Comes}
use Rattle.look.proofs.leaf.row_taken.Given as goal

abbrev pub invariant-loop-w : goal.invariant-loop-w
invariant-loop-w l = Comes l.s l.at l.a l.b l.last l.w-index l.from
