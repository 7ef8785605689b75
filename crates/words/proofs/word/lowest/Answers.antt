-- `words::word::lowest` meets its contract. The lowest set bit is past the trailing zeros. Assumes nothing.
use mathlib.Core.Path.{sym}
use Rattle.words.proofs.Words.{lowest-is}
use Rattle.words.proofs.word.lowest.Goals as goal

pub returns : goal.returns
returns c = sym (lowest-is c.args.w)
