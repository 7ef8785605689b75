-- `image::layout::image_level` meets its contract: what is found is the length of a level. Assumes nothing.
use Rattle.std.proofs.Common.{rules, tests, arith, add-one, ◌≡◌}
use Rattle.std.proofs.lemmas.Iterator.{first_from_Range}
use Rattle.image.specs.Image.{image_length}
use Rattle.image.proofs.Starts.{level-found}
use Rattle.image.proofs.layout.image_level.Goals as goal

pub returns : goal.returns
returns c =
    let n = c.args.n in
    level-found _ _ (first_from_Range _ _ _ _ (λ k. n ≡ image_length k) (λ k. n ≡ image_length k → ⊥) c.find.ensures.ran
    (λ x q k. grind (arith, tests, add-one))
    (λ x q k. (search rules, grind (arith, tests, add-one))))
