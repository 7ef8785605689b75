-- The proof of the cycle of calls {give_back::dealloc_contiguous_old, give_back::dealloc_contiguous_old_below}. The measure is 2 k for a
-- map of level k, and 2 k + 1 for the table. The loop is the one of `Walk` and `Turn`, each of the children becoming what a give-back
-- leaves of it; `ok` is `taken?`. Assumes nothing.
use mathlib.Core.Path.{◌≡◌}
use Prim.Native.Nat.{◌+◌, ◌*◌}
use Rattle.change.proofs.Turn.{Upto}
use Rattle.change.proofs.Walk.{Walk}
use Rattle.change.proofs.GiveBacks.{given_kids, taken?}
use Rattle.change.proofs.give_back.+old_way.Given as goal

abbrev pub decreases-dealloc_contiguous_old : goal.decreases-dealloc_contiguous_old
decreases-dealloc_contiguous_old l = 2 * l.k

abbrev pub decreases-dealloc_contiguous_old_below : goal.decreases-dealloc_contiguous_old_below
decreases-dealloc_contiguous_old_below l = 2 * l.k + 1

abbrev pub invariant-dealloc_contiguous_old-loop-i : goal.invariant-dealloc_contiguous_old-loop-i
invariant-dealloc_contiguous_old-loop-i l =
    Walk l.k l.a l.b l.j l.end l.initial.i l.i
    × Upto l.j l.size l.initial.s (given_kids l.j l.initial.s l.a l.b) l.initial.i l.i l.s l.w
    × (l.ok ≡ taken? l.j l.initial.s l.a l.b l.i)
