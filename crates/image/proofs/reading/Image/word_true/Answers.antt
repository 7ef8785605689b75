-- `image::reading::Image::word_true` meets its contract. Assumes nothing.
use Rattle.std.proofs.Common.{ap, add-one, arith}
use Rattle.words.specs.Place.{count}
use Rattle.words.proofs.Places.{count-node}
use Rattle.image.proofs.DepthTruth.{word-test}
use Rattle.image.proofs.reading.Image.word_true.Goals as goal

pub word-requires : goal.word-requires
word-requires c = (omega arith, omega (arith, count-node c.args.d, ap count (add-one c.args.d)))

pub returns : goal.returns
returns c = word-test _ _ _ c.word.ensures c.word-2.ensures c.test.ensures
