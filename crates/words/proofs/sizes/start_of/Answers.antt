-- `words::sizes::start_of` meets its contract. A child's positions are a power of 2, so that the product is a shift. Assumes nothing.
use mathlib.Core.Path.{refl}
use Prim.Native.Nat.{◌+◌, ◌*◌}
use native.Mathlib.Omega.{arith}
use lib.Pow.{shl_exact}
use Rattle.words.proofs.Levels.{cap-pow, start-small}
use Rattle.words.proofs.sizes.start_of.Goals as goal

pub returns : goal.returns
returns c = let a = c.args in
    rw (shl_exact {a = a.i} 5 (4 * a.j + 4) 64 (omega arith) (omega arith), ← cap-pow a.j) (refl, start-small a.j a.i c.requires.0 c.requires.1)
