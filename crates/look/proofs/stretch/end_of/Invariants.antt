-- `look::stretch::end_of` meets its contract. The loop's invariant: the search goes on at x (`Reached`). The measure is what is left of
-- the range. Assumes nothing.
use Prim.Native.Nat.{◌-◌}
use Rattle.look.proofs.Ends as laws
use Rattle.look.proofs.stretch.end_of.Given as goal

abbrev pub invariant-loop-x : goal.invariant-loop-x
invariant-loop-x l = laws.Reached (laws.held l.k l.s) l.a l.b l.x

abbrev pub decreases-loop-x : goal.decreases-loop-x
decreases-loop-x l = l.b - l.x
