-- `lines::read::number` meets its contract. What is left to read, after the value so far, says what the whole text says. Assumes nothing.
use mathlib.Core.Path.{refl, sym, ◌∙◌}
use native.Mathlib.Omega.{arith}
use Prim.Native.Nat.{◌≤◌}
use lib.ListN.{length, get_or}
use borrow.Author.Tests.{eqb-true}
use Rattle.lines.proofs.Numbers.{tens-suc, tens-zero, tens-le, digits-not, digits-on, digits-end, value-on, value-end, digit-le, some-bytes, number-empty, number-long, number-not, number-is, is-number, no-number}
use Rattle.lines.proofs.read.number.Goals as goal

pub returns-then-is_empty : goal.returns-then-is_empty
returns-then-is_empty c = no-number _ (number-empty _ (eqb-true _ _ (sym c.is_empty.ensures ∙ c.if-is_empty.true)))

pub returns-then-s-gt10 : goal.returns-then-s-gt10
returns-then-s-gt10 c = no-number _ (number-long _ c.if-s-gt10.true)

pub loop-b-init : goal.loop-b-init
loop-b-init c = (refl, refl, omega (arith, tens-zero))

pub returns-then-not-is_ascii_digit : goal.returns-then-not-is_ascii_digit
returns-then-not-is_ascii_digit c =
    let s = c.args.s.now in
    no-number s (number-not s (omega arith) (omega arith) (sym c.loop-b.invariant.0 ∙ digits-not s c.loop-b.b-index (omega arith) (sym c.is_ascii_digit.ensures.value ∙ c.if-not-is_ascii_digit.true)))

pub overflow_mul-v : goal.overflow_mul-v
overflow_mul-v c = omega (arith, tens-le c.loop-b.b-index (omega arith))

pub overflow_add-v : goal.overflow_add-v
overflow_add-v c = omega (arith, tens-le c.loop-b.b-index (omega arith))

pub loop-b-preserved : goal.loop-b-preserved
loop-b-preserved c =
    let s = c.args.s.now in
    let i = c.loop-b.b-index in
    let d = sym c.is_ascii_digit.ensures.value ∙ c.if-not-is_ascii_digit.false in
    (sym (digits-on s i (omega arith) d) ∙ c.loop-b.invariant.0, sym (value-on s i c.loop-b.v (omega arith)) ∙ c.loop-b.invariant.1, let b = digit-le (get_or s i 0) d in omega (arith, tens-suc i))

pub returns : goal.returns
returns c =
    let s = c.args.s.now in
    let i = c.loop-b.b-index in
    let some : 1 ≤ length s = some-bytes s (sym c.is_empty.ensures ∙ c.if-is_empty.false) in
    is-number s (omega (arith, tens-le i (omega arith)))
    (number-is s some (omega arith) (sym c.loop-b.invariant.0 ∙ digits-end s i (omega arith)) ∙ sym c.loop-b.invariant.1 ∙ value-end s i c.loop-b.v (omega arith))
