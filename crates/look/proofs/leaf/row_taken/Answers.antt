-- `look::leaf::row_taken` meets its contract: the pass comes to one word after the other (`Comes`). Assumes nothing.
use Rattle.std.proofs.Common.{sym, ◌∙◌, arith}
use Rattle.words.specs.Sizes.{cap}
use Rattle.look.proofs.LeafRows.{comes-start, comes-no, comes-next, comes-in, comes-last}
use Rattle.look.proofs.leaf.row_taken.Goals as goal

pub slice_bounds-w-items-end : goal.slice_bounds-w-items-end
unfolding cap
slice_bounds-w-items-end c = omega (arith, c.child_of-last.ensures, c.requires)

pub loop-w-init : goal.loop-w-init
loop-w-init c = let r = c.requires in comes-start _ _ _ _ c.child_of-last.ensures r.0 r.1 r.3

pub returns-then-not-clear : goal.returns-then-not-clear
returns-then-not-clear c = comes-no c.loop-w.invariant c.loop-w-test.true (sym c.clear.ensures ∙ c.if-not-clear.true)

pub loop-w-preserved : goal.loop-w-preserved
loop-w-preserved c = comes-next c.loop-w.invariant c.loop-w-test.true (sym c.clear.ensures ∙ c.if-not-clear.false)

pub overflow_sub-b-2 : goal.overflow_sub-b-2
overflow_sub-b-2 c = (comes-in c.loop-w.invariant c.loop-w-test.false c.start_of.ensures.0).0

pub clear-requires-2 : goal.clear-requires-2
clear-requires-2 c =
    let r = comes-in c.loop-w.invariant c.loop-w-test.false c.start_of.ensures.0 in
    (r.1, r.2)

pub returns : goal.returns
returns c = c.clear-2.ensures ∙ comes-last c.loop-w.invariant c.loop-w-test.false c.start_of.ensures.0
