-- `words::place::leaf_place` meets its contract. The shifts of the position are the words passed on each level. Assumes nothing.
use Rattle.words.proofs.OnWay.{leaf-place-lt}
use Rattle.words.proofs.Index.{place-shifts}
use Rattle.words.proofs.place.leaf_place.Goals as goal

pub returns : goal.returns
returns c = let a = c.args in
    let is = place-shifts a.k a.p c.requires.0 c.requires.1 in
    (is, rw is (leaf-place-lt a.k a.p c.requires.1))
