-- `lines::read::command` meets its contract: each cut gives a piece of the line. Assumes nothing.
use Rattle.std.proofs.Common.{sym, ◌∙◌}
use Rattle.lines.proofs.Fields.{cut-first, cut-more, cut-last, and-then, line-whole, line-is, line-name, says-one, says-two, says-three, first-none, second-none, third-none, too-many}
use Rattle.lines.proofs.read.command.Goals as goal

pub returns-then-code-ne0 : goal.returns-then-code-ne0
returns-then-code-ne0 c = c.new.ensures ∙ line-whole c.args.s.now c.code_of-code.ensures c.if-code-ne0.true

-- ---- one piece, and no number or one

pub returns-in_err-rest : goal.returns-in_err-rest
returns-in_err-rest c =
    rw c.from_residual.ensures
    (line-name c.args.s.now (sym c.if-code-ne0.false ∙ c.code_of-code.ensures) (rw c.in_err-rest.was at c.cut.ensures.rest))

pub returns-in_err-a : goal.returns-in_err-a
returns-in_err-a c =
    let z = sym c.if-code-ne0.false ∙ c.code_of-code.ensures in
    let one = cut-more c.args.s.now c.cut.ensures.first c.cut.ensures.rest c.in_ok-rest.field-0 c.in_ok-rest.was in
    let last = cut-first _ c.cut-2.ensures.first in
    rw c.from_residual-in_err-a.ensures
    (line-is c.args.s.now z (and-then _ _ one last)
    (first-none c.cut.result.0.now c.cut-2.result.0.now _ c.in_err-a.ensures))

pub returns-in_default : goal.returns-in_default
returns-in_default c =
    let z = sym c.if-code-ne0.false ∙ c.code_of-code.ensures in
    let one = cut-more c.args.s.now c.cut.ensures.first c.cut.ensures.rest c.in_ok-rest.field-0 c.in_ok-rest.was in
    let last = cut-last _ c.cut-2.ensures.first c.cut-2.ensures.rest c.in_default.is in
    c.new-in_default.ensures
    ∙ line-is c.args.s.now z (and-then _ _ one last)
    (says-one c.cut.result.0.now c.cut-2.result.0.now c.in_ok-a.ensures c.code_of.ensures)

-- ---- two numbers

pub returns-in_err-b : goal.returns-in_err-b
returns-in_err-b c =
    let z = sym c.if-code-ne0.false ∙ c.code_of-code.ensures in
    let one = cut-more c.args.s.now c.cut.ensures.first c.cut.ensures.rest c.in_ok-rest.field-0 c.in_ok-rest.was in
    let two = cut-more _ c.cut-2.ensures.first c.cut-2.ensures.rest c.in-Some.rest c.in-Some.is in
    let last = cut-first _ c.cut-3.ensures.first in
    rw c.from_residual-in_err-b.ensures
    (line-is c.args.s.now z (and-then _ _ one (and-then _ _ two last))
    (second-none c.cut.result.0.now c.cut-2.result.0.now c.in_ok-a.ensures c.cut-3.result.0.now _ c.in_err-b.ensures))

pub returns-in_default-rest : goal.returns-in_default-rest
returns-in_default-rest c =
    let z = sym c.if-code-ne0.false ∙ c.code_of-code.ensures in
    let one = cut-more c.args.s.now c.cut.ensures.first c.cut.ensures.rest c.in_ok-rest.field-0 c.in_ok-rest.was in
    let two = cut-more _ c.cut-2.ensures.first c.cut-2.ensures.rest c.in-Some.rest c.in-Some.is in
    let last = cut-last _ c.cut-3.ensures.first c.cut-3.ensures.rest c.in_default-rest.is in
    c.new-in_default-rest.ensures
    ∙ line-is c.args.s.now z (and-then _ _ one (and-then _ _ two last))
    (says-two c.cut.result.0.now c.cut-2.result.0.now c.in_ok-a.ensures c.cut-3.result.0.now c.in_ok-b.ensures c.code_of-in_default-rest.ensures)

-- ---- three numbers, and too many

pub returns-in_err-c : goal.returns-in_err-c
returns-in_err-c c =
    let z = sym c.if-code-ne0.false ∙ c.code_of-code.ensures in
    let one = cut-more c.args.s.now c.cut.ensures.first c.cut.ensures.rest c.in_ok-rest.field-0 c.in_ok-rest.was in
    let two = cut-more _ c.cut-2.ensures.first c.cut-2.ensures.rest c.in-Some.rest c.in-Some.is in
    let three = cut-more _ c.cut-3.ensures.first c.cut-3.ensures.rest c.in-Some-rest.rest c.in-Some-rest.is in
    let last = cut-first _ c.cut-4.ensures.first in
    rw c.from_residual-in_err-c.ensures
    (line-is c.args.s.now z (and-then _ _ one (and-then _ _ two (and-then _ _ three last)))
    (third-none c.cut.result.0.now c.cut-2.result.0.now c.in_ok-a.ensures c.cut-3.result.0.now c.in_ok-b.ensures c.cut-4.result.0.now _ c.in_err-c.ensures))

pub returns-in-None : goal.returns-in-None
returns-in-None c =
    let z = sym c.if-code-ne0.false ∙ c.code_of-code.ensures in
    let one = cut-more c.args.s.now c.cut.ensures.first c.cut.ensures.rest c.in_ok-rest.field-0 c.in_ok-rest.was in
    let two = cut-more _ c.cut-2.ensures.first c.cut-2.ensures.rest c.in-Some.rest c.in-Some.is in
    let three = cut-more _ c.cut-3.ensures.first c.cut-3.ensures.rest c.in-Some-rest.rest c.in-Some-rest.is in
    let last = cut-last _ c.cut-4.ensures.first c.cut-4.ensures.rest c.in-None.is in
    c.new-in-None.ensures
    ∙ line-is c.args.s.now z (and-then _ _ one (and-then _ _ two (and-then _ _ three last)))
    (says-three c.cut.result.0.now c.cut-2.result.0.now c.in_ok-a.ensures c.cut-3.result.0.now c.in_ok-b.ensures c.cut-4.result.0.now c.in_ok-c.ensures c.code_of-in-None.ensures)

pub returns-in-Some-rest-2 : goal.returns-in-Some-rest-2
returns-in-Some-rest-2 c =
    let z = sym c.if-code-ne0.false ∙ c.code_of-code.ensures in
    let one = cut-more c.args.s.now c.cut.ensures.first c.cut.ensures.rest c.in_ok-rest.field-0 c.in_ok-rest.was in
    let two = cut-more _ c.cut-2.ensures.first c.cut-2.ensures.rest c.in-Some.rest c.in-Some.is in
    let three = cut-more _ c.cut-3.ensures.first c.cut-3.ensures.rest c.in-Some-rest.rest c.in-Some-rest.is in
    let last = cut-more _ c.cut-4.ensures.first c.cut-4.ensures.rest _ c.in-Some-rest-2.is in
    line-is c.args.s.now z (and-then _ _ one (and-then _ _ two (and-then _ _ three last)))
    (too-many c.cut.result.0.now c.cut-2.result.0.now c.cut-3.result.0.now c.cut-4.result.0.now _)
