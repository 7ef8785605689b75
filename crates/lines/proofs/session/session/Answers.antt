-- `lines::session::session` meets its contract: what is left of the session is the whole of it. Assumes nothing.
use Rattle.std.proofs.Common.{◌≡◌, refl, ap, ◌∙◌, ◌<◌, ℕ, List, [], Bor, unwrap_or, length, arith, tests}
use Rattle.lines.specs.Split.{behind}
use Rattle.lines.proofs.Sessions.{start as begin, left-is, line-room, less, on, off, finish}
use Rattle.lines.proofs.session.session.Goals.{After-cut, After-unwrap_or-rest}
use Rattle.lines.proofs.session.session.Goals as goal

-- a byte is left, and what is left after it
some : (c : After-cut) → 0 < length c.loop-rest.rest.now
some c = grind (arith, tests)

left : (c : After-unwrap_or-rest) → c.unwrap_or-rest.result.now ≡ unwrap_or (behind 10 c.loop-rest.rest.now) []
left c = ap (λ (t : Bor (List ℕ)). t.now) c.unwrap_or-rest.ensures ∙ left-is c.cut.result.1 _ refl c.cut.ensures.rest

pub loop-rest-init : goal.loop-rest-init
loop-rest-init c = begin _ _ _ _ c.requires.0

pub step-s-requires : goal.step-s-requires
step-s-requires c =
    let u = c.loop-rest.invariant in
    let q = c.requires in
    let room = line-room u c.cut.ensures.first (some (goal.at.step-s-requires c).After-cut) in
    (u.fits, omega (arith, u.sized, q.1), omega (arith, room, u.room, q.2))

pub returns-then-s-eq0 : goal.returns-then-s-eq0
returns-then-s-eq0 c =
    let s = c.step-s in
    off c.loop-rest.invariant c.cut.ensures.first (some (goal.at.returns-then-s-eq0 c).After-cut) s.ensures s.auto.words s.auto.out c.if-s-eq0.true c.requires.2

pub loop-rest-preserved : goal.loop-rest-preserved
loop-rest-preserved c =
    let s = c.step-s in
    on c.loop-rest.invariant c.cut.ensures.first (some (goal.at.loop-rest-preserved c).After-cut) s.ensures s.auto.words s.auto.out c.if-s-eq0.false
    (left (goal.at.loop-rest-preserved c).After-unwrap_or-rest)

pub loop-rest-smaller : goal.loop-rest-smaller
loop-rest-smaller c =
    let at = goal.at.loop-rest-smaller c in
    omega (arith, less c.loop-rest.invariant c.cut.ensures.first (some at.After-cut), ap length (left at.After-unwrap_or-rest))

pub returns : goal.returns
returns c = finish c.loop-rest.invariant c.requires.2 (grind (arith, tests))
