-- `image::reading::Image::read_to` meets its contract. The loops' invariants: the words of the depths before d, and those of depth d before j,
-- are in their places; the inner loop says it of any target that the outer loop filled so far. The measures are what is left of the
-- words of the depth and of the depths. Assumes nothing.
use Prim.Native.Nat.{◌<◌}
use Rattle.words.specs.Place.{count}
use Rattle.image.specs.Reading.{map_of}
use Rattle.image.proofs.Filling.{fill-start, fill-turn, fill-next, fill-end}
use native.Mathlib.Omega.{arith}
use Rattle.image.proofs.reading.Image.read_to.Goals as goal

pub loop-d-init : goal.loop-d-init
loop-d-init c = (omega arith, fill-start c.requires)

pub loop-j-preserved : goal.loop-j-preserved
loop-j-preserved c =
    let inside : c.loop-j.j < count c.loop-d.d = omega arith in
    (omega arith, λ t h. fill-turn (c.loop-j.invariant.1 t h) (omega arith) inside c.word_place.ensures.0 c.word.ensures)

pub loop-d-preserved : goal.loop-d-preserved
loop-d-preserved c = (omega arith, fill-next (c.loop-j.invariant.1 _ c.loop-d.invariant.1) (omega arith))

pub returns : goal.returns
unfolding map_of
returns c = fill-end c.loop-d.invariant.1 (omega arith)
