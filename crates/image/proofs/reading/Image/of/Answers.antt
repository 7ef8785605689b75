-- `image::reading::Image::of` meets its contract. Assumes nothing.
use Rattle.image.proofs.Starts.{level-is}
use Rattle.image.proofs.reading.Image.of.Goals as goal

pub invariant_of-result : goal.invariant_of-result
invariant_of-result c = record { sized = level-is _ _ c.in_ok-level.ensures }
