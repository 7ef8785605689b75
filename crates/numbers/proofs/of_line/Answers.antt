-- `numbers::of_line`: each number is had from the line alone. Assumes nothing.
use Rattle.std.proofs.Common.{rules, arith}
use Rattle.numbers.specs.Numbers.{number_behind}
use Rattle.numbers.proofs.Made.{made}
use Rattle.numbers.proofs.of_line.Goals as goal

pub returns-clause-value : goal.returns-clause-value
returns-clause-value g c = λ k below.
    made _ (λ i. number_behind i c.args.line.now) _ (λ i y q called. search rules) _ 0 _ c.from_fn.ensures.items.each k (omega arith) (omega arith)
