-- `bitmap::map::next` meets its contract: a key past the end is where its search ends. Assumes nothing.
use borrow.Author.Tests.{le-leb}
use native.Mathlib.Omega.{arith}
use Rattle.words.specs.Sizes.{cap}
use Rattle.words.specs.Tree.{free?}
use Rattle.words.proofs.Search.{first-end}
use Rattle.bitmap.proofs.Refusals.{refuses}
use Rattle.bitmap.proofs.map.next.Goals as goal

pub returns-then-cap_of-key : goal.returns-then-cap_of-key
returns-then-cap_of-key c = let a = c.args in
    refuses 5 _ _ (le-leb (cap a.k) _ (omega (arith, first-end (free? a.k a.s.now) a.key (cap a.k) (omega arith))))
