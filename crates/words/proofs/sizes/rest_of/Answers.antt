-- `words::sizes::rest_of` meets its contract. A child's positions are a power of 2, so that the remainder is a mask. Assumes nothing.
use Prim.Native.Nat.{◌+◌, ◌*◌}
use native.Mathlib.Omega.{arith}
use Rattle.words.proofs.Levels.{cap-pow}
use Rattle.words.proofs.Words.{rest-is}
use Rattle.words.proofs.sizes.rest_of.Goals as goal

pub returns : goal.returns
returns c = rw (cap-pow c.args.j) (rest-is 64 c.args.p (4 * c.args.j + 4) (omega arith))
