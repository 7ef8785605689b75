-- `look::leaf::all_taken` meets its contract: a row of the run is passed over at a time (`in-row`). Assumes nothing.
use Rattle.std.proofs.Common.{sym, ◌∙◌, arith}
use Rattle.words.proofs.Levels.{cap-small}
use Rattle.words.proofs.Search.{none-no, none-on, none-end}
use Rattle.look.proofs.LeafRows.{in-row, row-asks, row-says}
use Rattle.look.proofs.leaf.all_taken.Goals as goal

pub overflow_add-row : goal.overflow_add-row
overflow_add-row c = omega (arith, c.loop-p-test.true, cap-small c.args.k c.requires.0)

pub overflow_sub-end : goal.overflow_sub-end
overflow_sub-end c =
    let row = in-row c.args.k _ c.args.b c.loop-p-test.true c.requires.3 c.rest_of-low.ensures c.rest_of.ensures c.min-end.ensures in
    omega (arith, row.0)

pub row_taken-requires : goal.row_taken-requires
row_taken-requires c =
    let row = in-row c.args.k _ c.args.b c.loop-p-test.true c.requires.3 c.rest_of-low.ensures c.rest_of.ensures c.min-end.ensures in
    row-asks c.args.s.now row.0 c.leaf_place.ensures.0 c.requires.1

pub returns-then-not-row_taken : goal.returns-then-not-row_taken
returns-then-not-row_taken c =
    let row = in-row c.args.k _ c.args.b c.loop-p-test.true c.requires.3 c.rest_of-low.ensures c.rest_of.ensures c.min-end.ensures in
    let said = sym (c.row_taken.ensures ∙ row-says c.args.s.now row.0 c.leaf_place.ensures.0 c.requires.1) in
    sym (none-no _ _ c.min-end.result _ (omega (arith, row.0)) row.1 (said ∙ c.if-not-row_taken.true)) ∙ c.loop-p.invariant.1

pub loop-p-smaller : goal.loop-p-smaller
loop-p-smaller c =
    let row = in-row c.args.k _ c.args.b c.loop-p-test.true c.requires.3 c.rest_of-low.ensures c.rest_of.ensures c.min-end.ensures in
    omega (arith, row.0, c.loop-p-test.true)

pub loop-p-preserved : goal.loop-p-preserved
loop-p-preserved c =
    let row = in-row c.args.k _ c.args.b c.loop-p-test.true c.requires.3 c.rest_of-low.ensures c.rest_of.ensures c.min-end.ensures in
    let said = sym (c.row_taken.ensures ∙ row-says c.args.s.now row.0 c.leaf_place.ensures.0 c.requires.1) in
    (row.1, sym (none-on _ _ c.min-end.result _ (omega (arith, row.0)) row.1 (said ∙ c.if-not-row_taken.false)) ∙ c.loop-p.invariant.1)

pub returns : goal.returns
returns c = sym (none-end _ _ _ c.loop-p-test.false) ∙ c.loop-p.invariant.1
