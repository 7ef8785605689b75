-- The words of a map by their depth: the map's own word has depth 0, and its leaf words the depth k. Definitions only.
use Rattle.std.specs.Prelude.{ℕ, zero, suc, List, [], ◌∷◌}
use Rattle.words.specs.Tree.{own, child, row}

-- the words of depth d of a map s of level k, in rising order of position
unfoldable pub depth_words : ℕ → ℕ → List ℕ → List ℕ
depth_words k zero s = own s ∷ []
depth_words zero (suc d) s = []
depth_words (suc k) (suc d) s = row (λ i. depth_words k d (child k s i)) 16
