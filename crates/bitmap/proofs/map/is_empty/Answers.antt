-- `bitmap::map::is_empty` meets its contract. Assumes nothing.
use native.Mathlib.Omega.{arith}
use Rattle.words.proofs.Levels.{words-pos}
use Rattle.bitmap.proofs.map.is_empty.Goals as goal

pub bounds-s-0 : goal.bounds-s-0
bounds-s-0 c = omega (arith, words-pos c.args.k)
