-- `image::reading::Image::counts_right` meets its contract. Assumes nothing.
use Rattle.std.proofs.Common.{rules, refl, suc, tests, add-one}
use Rattle.image.specs.Reading.{counted}
use Rattle.image.proofs.Ranges.{all-range}
use Rattle.image.proofs.reading.Image.counts_right.Goals as goal

pub returns : goal.returns
unfolding counted
returns c = all-range _ (suc c.args.self.now.level) c.all.ensures.ran refl (add-one _)
    (λ x q k. (search rules, search (rules, tests))) (λ x q k. search (rules, tests))
