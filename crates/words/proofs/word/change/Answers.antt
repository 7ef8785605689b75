-- `words::word::change` meets its contract. A mask's bits are set or cleared. Assumes nothing.
use Rattle.words.specs.Bits.{within}
use Rattle.words.proofs.Words.{insert-is, remove-is}
use Rattle.words.proofs.word.change.Goals as goal

pub returns-in-Insert : goal.returns-in-Insert
returns-in-Insert c = rw (c.mask.ensures, c.in-Insert.is) (insert-is c.args.w (within c.args.start c.args.end) c.ranges.w.fits)

pub returns-in-Remove : goal.returns-in-Remove
returns-in-Remove c = rw (c.mask-in-Remove.ensures, c.in-Remove.is) (remove-is c.args.w (within c.args.start c.args.end) c.ranges.w.fits)
