-- `words::align::is_aligned_log2` meets its contract. The mask is the remainder by 2^align_log2. Assumes nothing.
use Rattle.words.proofs.Words.{rest-is}
use Rattle.words.proofs.align.is_aligned_log2.Goals as goal

pub returns : goal.returns
returns c = rw (rest-is 64 c.args.base c.args.align_log2 c.requires)
