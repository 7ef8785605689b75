-- `words::sizes::child_of` meets its contract. A child's positions are a power of 2, so that the division is a shift. Assumes nothing.
use Rattle.words.proofs.Levels.{cap-pow}
use Rattle.words.proofs.sizes.child_of.Goals as goal

pub returns : goal.returns
returns c = rw (cap-pow c.args.j)
