-- `image::layout::start_of` meets its contract. Assumes nothing.
-- the words of the depths before d
use mathlib.Core.Path.{sym, ap}
use Rattle.image.specs.Image.{start}
use Rattle.image.proofs.Starts.{start-from, start-small}
use Prim.Native.Nat.{◌-◌, ◌≤◌}
use native.Mathlib.Omega.{arith}
use Rattle.words.proofs.Levels.{words-small}
use Rattle.image.proofs.layout.start_of.Goals as goal

small : (c : goal.After-words_of) → c.words_of.result ≤ 17895697
small c = omega (arith, c.words_of.ensures, words-small (c.args.d - 1) (omega arith))

pub returns-then-d-eq0 : goal.returns-then-d-eq0
unfolding start
returns-then-d-eq0 c = (ap start (sym c.if-d-eq0.true), omega arith)

pub overflow_mul-result-2 : goal.overflow_mul-result-2
overflow_mul-result-2 c = omega (arith, small c)

pub overflow_add-result-2 : goal.overflow_add-result-2
overflow_add-result-2 c = omega (arith, small c)

pub returns : goal.returns
unfolding start
returns c = let d = c.args.d in
    let is = start-from d c.if-d-eq0.false in
    (omega arith, omega (arith, start-small d c.requires))
