-- `look::child::child` meets its contract: the child is entered (`part`). Assumes nothing.
use Rattle.std.proofs.Common.{refl, arith}
use Rattle.words.proofs.Path.{Entered, enter, entered-part, entered-length}
use Rattle.look.proofs.child.child.Goals as goal
use Rattle.look.proofs.child.child.Goals.{After-words_of-size}

part : (c : After-words_of-size) → Entered c.args.j c.args.s.now c.args.i c.words_of-size.result
part c = enter refl (omega arith) c.requires.1 c.words_of-size.ensures c.requires.2

pub overflow_mul-from : goal.overflow_mul-from
overflow_mul-from c = omega (arith, part c)

pub overflow_add-from : goal.overflow_add-from
overflow_add-from c = omega (arith, part c)

pub overflow_add-result : goal.overflow_add-result
overflow_add-result c = omega (arith, part c)

pub offset_bounds-s-from : goal.offset_bounds-s-from
offset_bounds-s-from c = omega (arith, part c)

pub slice_bounds-result-end : goal.slice_bounds-result-end
slice_bounds-result-end c = (part c).ends

pub returns : goal.returns
returns c =
    let p = part (goal.at.returns c).After-words_of-size in
    (entered-part p, entered-length p)
