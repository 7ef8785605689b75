-- The proof of the cycle of calls {put_digits}: how many digits are asked for is the measure. Assumes nothing.
use Rattle.std.proofs.Common.{sym, ap, ◌∙◌, ℕ, List, [], ◌-◌, ◌/◌, ◌%◌, ◌+◌, length, arith}
use Rattle.lines.specs.Number.{digits}
use Rattle.lines.specs.Session.{renewed}
use Rattle.lines.proofs.Numbers.{digits-none, digits-one, digits-more, digits-length}
use Rattle.lines.proofs.Puts.{renewed-byte, written-byte}
use Rattle.lines.proofs.write.+put_digits.Goals as goal

pub returns-then-k-eq0 : goal.returns-then-k-eq0
returns-then-k-eq0 t c =
    let a = c.args in
    let e = digits-none a.k a.n c.if-k-eq0.true in
    record { value = omega (arith, ap length e); out_after = sym (ap (λ (x : List ℕ). renewed x a.out.now) e) }

-- one digit is left
pub bounds-out-0 : goal.bounds-out-0
bounds-out-0 t c = omega (arith, ap length (digits-one c.args.k c.args.n c.if-k-eq0.false c.if-n-lt10.true))

pub returns-then-n-lt10 : goal.returns-then-n-lt10
returns-then-n-lt10 t c =
    let a = c.args in
    let e = digits-one a.k a.n c.if-k-eq0.false c.if-n-lt10.true in
    record {
      value = omega (arith, ap length e);
      out_after = renewed-byte a.out.now [] (48 + a.n) (omega (arith, ap length e)) ∙ sym (ap (λ (x : List ℕ). renewed x a.out.now) e);
    }

-- one digit comes after the others
pub put_digits-count-requires : goal.put_digits-count-requires
put_digits-count-requires t c =
    (omega arith, omega (arith, digits-length c.args.k c.args.n c.if-k-eq0.false c.if-n-lt10.false))

pub bounds-out-count : goal.bounds-out-count
bounds-out-count t c =
    let longer = digits-length c.args.k c.args.n c.if-k-eq0.false c.if-n-lt10.false in
    omega (arith, longer, c.put_digits-count.auto.out, c.put_digits-count.ensures.value)

pub returns : goal.returns
returns t c =
    let a = c.args in
    let others = c.put_digits-count.ensures in
    let longer = digits-length a.k a.n c.if-k-eq0.false c.if-n-lt10.false in
    record {
      value = omega (arith, longer, others.value);
      out_after = written-byte a.out.now (digits (a.k - 1) (a.n / 10)) (48 + a.n % 10) (omega (arith, longer)) others.out_after others.value
          ∙ sym (ap (λ (x : List ℕ). renewed x a.out.now) (digits-more a.k a.n c.if-k-eq0.false c.if-n-lt10.false));
    }
