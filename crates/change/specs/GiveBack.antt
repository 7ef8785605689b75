-- Run give-back, the crate's way. Taken and free mean the leaf bit here. Definitions only.
use Rattle.std.specs.Prelude.{ℕ, zero, suc, ◌-◌, ◌*◌, cond, ◌&&◌, List, leb, ltb}
use Rattle.words.specs.declared.kind.Change.TheVariants.{Insert}
use Rattle.words.specs.Search.{first_from}
use Rattle.words.specs.Sizes.{cap}
use Rattle.words.specs.Tree.{child, leaf?}
use Rattle.change.specs.Renew.{renew}
use Rattle.change.specs.Change.{change, low, high, visits}

-- the first position from a up to b whose leaf bit is set; b where there is none
abbrev pub first_leaf : ℕ → List ℕ → ℕ → ℕ → ℕ
first_leaf k s a b = first_from (leaf? k s) a (b - a)

-- the map s after a give-back of the positions from a up to b: a leaf word is freed if none of its part is free, and otherwise stays; the
-- children after that word's are passed over, but the summary bit of every child of the run is recomputed
unfoldable pub give_back : ℕ → List ℕ → ℕ → ℕ → List ℕ
give_back zero s a b = cond (ltb (first_leaf zero s a b) b) s (change Insert zero s a b)
give_back (suc k) s a b =
    renew k (λ i. visits (cap k) a b i && leb (i * cap k) (first_leaf (suc k) s a b)) (visits (cap k) a b)
    (λ i. give_back k (child k s i) (low (cap k) a i) (high (cap k) b i))
    s
