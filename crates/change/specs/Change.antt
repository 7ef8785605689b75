-- Making a range of positions free, or taken: what `insert` and `remove` do to a map. Definitions only.
use Rattle.std.specs.Prelude.{ℕ, zero, suc, ◌-◌, ◌*◌, min, Bool, List, [], ◌∷◌, ltb}
use Rattle.words.specs.declared.kind.Change.{Change}
use Rattle.words.specs.Bits.{change_word}
use Rattle.words.specs.Sizes.{cap}
use Rattle.words.specs.Tree.{own, child}
use Rattle.change.specs.Renew.{renew}

-- where the range that starts at a starts in child i, each child having n positions
unfoldable pub low : ℕ → ℕ → ℕ → ℕ
low n a i = a - i * n

-- where the range that ends at b ends in child i
unfoldable pub high : ℕ → ℕ → ℕ → ℕ
high n b i = min n (b - i * n)

-- child i has some of the range from a up to b
abbrev pub visits : ℕ → ℕ → ℕ → ℕ → Bool
visits n a b i = ltb (low n a i) (high n b i)

-- the map s with the positions from a up to b changed, and the summary bit of each child visited recomputed
unfoldable pub change : Change → ℕ → List ℕ → ℕ → ℕ → List ℕ
change c zero s a b = change_word c (own s) a b ∷ []
change c (suc k) s a b =
    renew k (visits (cap k) a b) (visits (cap k) a b)
    (λ i. change c k (child k s i) (low (cap k) a i) (high (cap k) b i))
    s
