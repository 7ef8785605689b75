-- `words::place::word_place` meets its contract: each turn goes one depth up (`up-turn`). Assumes nothing.
use Rattle.std.proofs.Common.{◌≡◌, ◌-◌, ◌≤◌, ◌+◌, ◌*◌, ◌%◌, arith}
use Rattle.words.proofs.Places.{place-lt, up-turn, up-fits, up-end}
use Rattle.words.proofs.place.word_place.Goals as goal

-- no number of a turn is larger than the map
fits : (c : goal.In-loop-up) → let l = c.loop-up in (l.at + (1 + l.rest % 16 * l.size) ≤ 17895697) × (1 + 16 * l.size ≤ 17895697)
fits c =
    let p = c.requires in
    up-fits _ _ _ c.loop-up.invariant c.loop-up-test.true p.1 p.2 p.0

pub overflow_mul-at : goal.overflow_mul-at
overflow_mul-at c = omega (arith, fits c)

pub overflow_add-at : goal.overflow_add-at
overflow_add-at c = omega (arith, fits c)

pub overflow_add-at-in-loop-up : goal.overflow_add-at-in-loop-up
overflow_add-at-in-loop-up c = omega (arith, fits c)

pub overflow_mul-size : goal.overflow_mul-size
overflow_mul-size c = omega (arith, fits c)

pub overflow_add-size : goal.overflow_add-size
overflow_add-size c = omega (arith, fits c)

pub loop-up-preserved : goal.loop-up-preserved
loop-up-preserved c = up-turn _ _ _ c.loop-up.invariant c.loop-up-test.true

pub returns : goal.returns
returns c =
    let a = c.args in
    let top : c.loop-up._up ≡ a.d = omega arith in
    let is = up-end _ _ _ (rw top at c.loop-up.invariant) in
    (is, rw is (place-lt (a.k - a.d) a.d a.k a.j (omega arith) c.requires.2))
