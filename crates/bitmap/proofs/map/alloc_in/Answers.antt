-- `bitmap::map::alloc_in` meets its contract: where the lowest set bits lead, and the take of that position. Assumes nothing.
use Rattle.std.proofs.Common.{arith}
use Rattle.words.proofs.Levels.{words-pos}
use Rattle.bitmap.proofs.map.alloc_in.Goals as goal

pub bounds-s-0 : goal.bounds-s-0
bounds-s-0 c = omega (arith, words-pos c.args.k)
