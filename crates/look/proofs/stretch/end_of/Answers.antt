-- `look::stretch::end_of` meets its contract: a word is looked at in each turn, and the first is in it or after it. Assumes nothing.
use Rattle.std.proofs.Common.{sym, arith}
use Rattle.words.proofs.Levels.{cap-small}
use Rattle.look.proofs.Ends as laws
use Rattle.look.proofs.stretch.end_of.Goals as goal

pub loop-x-init : goal.loop-x-init
loop-x-init c = laws.reached-start _ _ _ (omega arith)

pub overflow_add-word_end : goal.overflow_add-word_end
overflow_add-word_end c = omega (arith, laws.word-end c.loop-x.x, cap-small c.args.k c.requires.0)

pub returns-then-r-word_end : goal.returns-then-r-word_end
returns-then-r-word_end c =
    let x = c.loop-x.x in
    let found =
    laws.reached-found _ _ _ x c.loop-x.invariant c.loop-x-test.true (laws.word-end x) c.end_in_word-r.ensures c.if-r-word_end.true in
    omega (arith, found, c.min.ensures)

pub loop-x-smaller : goal.loop-x-smaller
loop-x-smaller c = omega (arith, laws.word-end c.loop-x.x)

pub loop-x-preserved : goal.loop-x-preserved
loop-x-preserved c =
    let x = c.loop-x.x in
    laws.reached-next _ _ _ x c.loop-x.invariant c.loop-x-test.true (laws.word-end x) c.end_in_word-r.ensures c.if-r-word_end.false

pub returns : goal.returns
returns c = sym (laws.reached-end _ _ _ c.loop-x.x c.loop-x.invariant c.loop-x-test.false)
