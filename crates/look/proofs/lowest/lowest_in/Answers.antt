-- `look::lowest::lowest_in` meets its contract. Assumes nothing.
use Rattle.std.proofs.Common.{arith}
use lib.Count.{count_trailing_zeros}
use Rattle.words.proofs.Words.{lowest-is}
use Rattle.words.proofs.Below.{below-some, below-none}
use Rattle.words.proofs.Truth.{lowest-set}
use Rattle.look.proofs.lowest.lowest_in.Goals as goal

-- 0 has none
pub returns-then-w-eq0 : goal.returns-then-w-eq0
unfolding count_trailing_zeros
returns-then-w-eq0 c = below-none (rw (c.if-w-eq0.true, lowest-is 0) (omega arith))

pub returns : goal.returns
returns c = rw c.lowest.ensures (below-some (lowest-set c.args.w (omega arith) c.if-w-eq0.false))
