-- `image::layout::count_of` meets its contract. The count is a power of 2, so that it is a shift. Assumes nothing.
use mathlib.Core.Path.{sym, ◌∙◌}
use Prim.Native.Nat.{◌*◌}
use Rattle.words.proofs.Words.{shl-one}
use Rattle.words.proofs.Places.{count-pow, count-small}
use native.Mathlib.Omega.{arith}
use Rattle.image.proofs.layout.count_of.Goals as goal

pub returns : goal.returns
returns c = let d = c.args.d in
    let is = shl-one 64 (4 * d) (omega arith) ∙ sym (count-pow d) in
    (is, omega (arith, is, count-small d c.requires))
