-- `lines::read::cut` meets its contract. Assumes nothing.
use Rattle.std.proofs.Common.{◌≡◌, ◌+◌, length-drop, Some, eqb, ap, ◌∙◌, arith, rules, tests}
use Rattle.std.specs.List.{position}
use Rattle.std.proofs.lemmas.Iterator.{YieldsList-from_slice}
use Rattle.std.proofs.lemmas.Iterator.Search.{position_from_yields_List}
use Rattle.std.proofs.lemmas.List.{take_all}
use Rattle.lines.proofs.Splits.{cut-some, cut-none}
use Rattle.lines.proofs.read.cut.Goals.{After-position}
use Rattle.lines.proofs.read.cut.Goals as goal

-- the call finds the first place
found : (c : After-position) → c.position.result ≡ position (λ b. eqb b c.args.d) c.args.s.now
found c = position_from_yields_List (λ b. eqb b c.args.d) _ _ c.position.result c.position.ensures.ran (YieldsList-from_slice c.args.s.now c.iter.ensures.rest) (λ x b q k. search (rules, tests))

pub returns-in-Some : goal.returns-in-Some
returns-in-Some c =
    let s = c.args.s.now in
    let e = cut-some c.args.d s (found (goal.at.returns-in-Some c).After-position) c.in-Some.i c.in-Some.is in
    record { first = e.0; rest = ap Some (take_all _ _ (omega (arith, length-drop (c.in-Some.i + 1) s))) ∙ e.1 }

pub returns-in-None : goal.returns-in-None
returns-in-None c =
    let e = cut-none c.args.d c.args.s.now (found (goal.at.returns-in-None c).After-position) c.in-None.is in
    record { first = e.0; rest = e.1 }
