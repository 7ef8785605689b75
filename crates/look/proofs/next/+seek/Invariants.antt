-- The cycle of calls {next_node, next_below, next_children}. A node at k asks its children at k - 1, by the key's own child first; the
-- children at j and i ask one of them at j after the other, through the table. The measure is 20 k for a node, one more for the table, and
-- 20 j + (18 - i) for the children from i on; that of their loop is what is left of the 16. Assumes nothing.
use Rattle.std.proofs.Common.{◌≡◌, suc, ◌+◌, ◌-◌, ◌*◌, ◌≤◌}
use Rattle.words.specs.Sizes.{cap}
use Rattle.look.proofs.Nexts.{found}
use Rattle.look.proofs.next.+seek.Given as goal

abbrev pub decreases-next_node : goal.decreases-next_node
decreases-next_node l = 20 * l.k

abbrev pub decreases-next_below : goal.decreases-next_below
decreases-next_below l = 20 * l.k + 1

abbrev pub decreases-next_children : goal.decreases-next_children
decreases-next_children l = 20 * l.j + (18 - l.i)

-- no position is found in the children from i up to `from`
abbrev pub invariant-next_children-loop-at : goal.invariant-next_children-loop-at
invariant-next_children-loop-at l = (l.from ≤ 16) × (found (suc l.j) l.s (l.from * cap l.j) ≡ found (suc l.j) l.s (l.i * cap l.j))

abbrev pub decreases-next_children-loop-at : goal.decreases-next_children-loop-at
decreases-next_children-loop-at l = 17 - l.from
