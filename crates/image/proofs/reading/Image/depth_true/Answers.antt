-- `image::reading::Image::depth_true` meets its contract. Assumes nothing.
use Rattle.std.proofs.Common.{rules, refl, ap, ◌∙◌, suc, add-one}
use Rattle.words.specs.Place.{count}
use Rattle.image.specs.Reading.{depth_true}
use Rattle.image.proofs.Ranges.{all-range}
use Rattle.image.proofs.reading.Image.depth_true.Goals as goal

pub returns : goal.returns
unfolding depth_true
returns c = all-range _ (count (suc c.args.d)) c.all.ensures.ran refl (c.count_of.ensures.0 ∙ ap count (add-one _))
    (λ x q k. (search rules, search rules)) (λ x q k. search rules)
