-- One answer: two answers of `of_line`, at every count N, that both meet its generated contract for the same line are equal.
-- Assumes nothing.
use mir.Syntax.{w64}
use mir.Val.{Fits}
use denote.Param.{number}
use Rattle.std.proofs.Common.{◌≡◌, refl, sym, subst, ◌∙◌, ℕ, ◌<◌, List, length}
use Rattle.std.proofs.lemmas.Grind.{same_number_lists}
use Rattle.bitmap.specs.Contract.{OneAnswer}
use Rattle.numbers.specs.Numbers.{NumbersOf}
use Rattle.numbers.specs.contracts.of_line as of_line
use Rattle.numbers.proofs.of_line.Reads as of-line-reads

-- by the clause alone: two lists of n numbers that are those of one line's first n parts are the same
pub numbers-once : (n : ℕ) (line r q : List ℕ) → length r ≡ n → length q ≡ n → NumbersOf n line r → NumbersOf n line q → r ≡ q
numbers-once n line r q lr lq mr mq =
    same_number_lists r q (lr ∙ sym lq) (λ k l. let low = subst (λ (m : ℕ). k < m) lr l in mr k low ∙ sym (mq k low))

-- The contract has the parameter N as the type `number n`, for an n that a usize holds.
pub of-line-once : (n : ℕ) (fits : Fits w64 n) → OneAnswer (of_line.ended (number n)) (of-line-reads.Post n fits)
of-line-once n fits κs a r₁ r₂ w₁ w₂ p q = (numbers-once n a.0.now r₁ r₂ p.1 q.1 p.0 q.0, refl)
