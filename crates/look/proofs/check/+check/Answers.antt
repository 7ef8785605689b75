-- The cycle of calls {check}: the test of one child says whether the test of the rest goes on. Assumes nothing.
use Rattle.std.proofs.Common.{sym, ap, ◌∙◌, not, ◌-◌, arith}
use Rattle.words.proofs.Levels.{words-pos}
use Rattle.words.proofs.Search.{all-stop, all-on, all-end}
use Rattle.words.proofs.Path.{level-below}
use Rattle.look.proofs.Checked.{true-leaf, true-node, wrong-bit, wrong-child, both-right}
use Rattle.look.proofs.check.+check.Goals as goal

pub returns-then-k-eq0 : goal.returns-then-k-eq0
returns-then-k-eq0 t c = sym (true-leaf _ c.if-k-eq0.true)

pub bounds-s-0 : goal.bounds-s-0
bounds-s-0 t c = omega (arith, words-pos c.args.k)

pub loop-i-init : goal.loop-i-init
loop-i-init t c = sym (true-node _ (level-below c.if-k-eq0.false))

pub bounds-below-0 : goal.bounds-below-0
bounds-below-0 t c =
    omega (arith, c.child-below.ensures.1, words-pos (c.args.k - 1))

pub returns-then-test-below : goal.returns-then-test-below
returns-then-test-below t c =
    sym (all-stop _ _ 16 c.loop-i-test.true (wrong-bit _ _ _ _ c.child-below.ensures.0 c.test.ensures c.if-test-below.true)) ∙ c.loop-i.invariant

pub returns-then-not-check : goal.returns-then-not-check
returns-then-not-check t c =
    sym (all-stop _ _ 16 c.loop-i-test.true (wrong-child _ _ _ _ c.child-below.ensures.0 c.check.ensures (ap not c.if-not-check.true))) ∙ c.loop-i.invariant

pub loop-i-preserved : goal.loop-i-preserved
loop-i-preserved t c =
    let right = both-right _ _ _ _ c.child-below.ensures.0 c.test.ensures c.if-test-below.false c.check.ensures (ap not c.if-not-check.false) in
    sym (all-on _ _ 16 c.loop-i-test.true right) ∙ c.loop-i.invariant

pub returns : goal.returns
returns t c = sym (all-end _ _ 16 c.loop-i-test.false) ∙ c.loop-i.invariant
