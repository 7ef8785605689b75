-- `words::word::mask` meets its contract. The mask is the difference of two powers of 2. Assumes nothing.
use native.Mathlib.Omega.{arith}
use lib.Pow.{pow_mono}
use Rattle.words.proofs.Words.{shl-one, mask-is}
use Rattle.words.proofs.word.mask.Goals as goal

pub overflow_sub-result : goal.overflow_sub-result
overflow_sub-result c = rw (shl-one 32 c.args.start (omega arith), shl-one 32 c.args.end (omega arith)) (pow_mono c.requires.0)

pub returns : goal.returns
returns c = mask-is _ _ c.requires.0 c.requires.1
