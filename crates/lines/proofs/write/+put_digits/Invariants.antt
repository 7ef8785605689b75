-- The proof of the cycle of calls {put_digits}: how many digits are asked for is the measure. Assumes nothing.
use Rattle.lines.proofs.write.+put_digits.Given as goal

abbrev pub decreases-put_digits : goal.decreases-put_digits
decreases-put_digits l = l.k
