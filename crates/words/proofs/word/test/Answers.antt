-- `words::word::test` meets its contract. The bit is read by a shift and a mask. Assumes nothing.
use Rattle.words.proofs.Words.{test-is}
use Rattle.words.proofs.word.test.Goals as goal

pub returns : goal.returns
returns c = test-is c.args.w c.args.i
