-- Where the lowest set bits of a map lead, with the place of the leaf word. Definitions only.
use Rattle.std.specs.Prelude.{ℕ, cond, List, ltb, Option, Some, None}
use Rattle.words.specs.Sizes.{cap}
use Rattle.words.specs.Place.{leaf_place}
use Rattle.words.specs.Take.{lowest}

-- to a position of the map, or nowhere where a word on the way is 0
abbrev pub leads : ℕ → List ℕ → Option (ℕ × ℕ)
leads k s = cond (ltb (lowest k s) (cap k)) (Some (lowest k s, leaf_place k (lowest k s))) None
