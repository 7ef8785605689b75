-- `words::sizes::words_of` meets its contract. The words of a smaller map are the largest one's, shifted. Assumes nothing.
use Rattle.words.proofs.Levels.{words-shift}
use Rattle.words.proofs.sizes.words_of.Goals as goal

pub returns : goal.returns
returns c = words-shift c.args.k c.requires
