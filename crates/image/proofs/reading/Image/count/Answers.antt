-- `image::reading::Image::count` meets its contract. Assumes nothing.
use Rattle.std.proofs.Common.{suc, arith}
use Rattle.image.proofs.Starts.{start-le, start-more}
use Rattle.image.proofs.ImageParts.{count-read}
use Rattle.image.proofs.reading.Image.count.Goals as goal

pub count_at-requires : goal.count_at-requires
count_at-requires c = let a = c.args in omega (arith, start-le (suc a.d) (suc a.self.now.level) (omega arith), start-more a.d)

pub returns : goal.returns
returns c = count-read _ _ c.count_at.ensures c.start_of.ensures.0
