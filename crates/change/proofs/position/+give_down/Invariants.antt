-- The proof of the cycle of calls {position::give_below, position::give_node}. The measure is 2 k for the table at level k, and 2 j + 1 for
-- a map whose children have the level j. What a map finds is what its child found, unless that turned (`GiveOnes`). Assumes nothing.
use Prim.Native.Nat.{◌+◌, ◌*◌}
use Rattle.change.proofs.position.+give_down.Given as goal

abbrev pub decreases-give_below : goal.decreases-give_below
decreases-give_below l = 2 * l.k

abbrev pub decreases-give_node : goal.decreases-give_node
decreases-give_node l = 2 * l.j + 1
