-- `image::reading::Image::map_true` meets its contract. Assumes nothing.
use Rattle.std.proofs.Common.{rules, refl, ◌∙◌}
use Rattle.image.specs.Reading.{map_of}
use Rattle.image.proofs.DepthTruth.{depths-true}
use Rattle.image.proofs.Ranges.{all-range}
use Rattle.image.proofs.reading.Image.map_true.Goals as goal

pub returns : goal.returns
unfolding map_of
returns c = all-range _ c.args.self.now.level c.all.ensures.ran refl refl (λ x q k. (search rules, search rules)) (λ x q k. search rules) ∙ depths-true _ _
