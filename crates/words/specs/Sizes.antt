-- How many words and positions a map has, by the levels below its own word: a map of level 0 is one leaf word. Definitions only.
use Rattle.std.specs.Prelude.{ℕ, zero, suc, ◌+◌, ◌*◌, eqb}
use Rattle.words.specs.Search.{first_from}

-- how many words a map has
unfoldable pub words : ℕ → ℕ
words zero = 1
words (suc k) = 1 + 16 * words k

-- how many positions it has
unfoldable pub cap : ℕ → ℕ
cap zero = 16
cap (suc k) = 16 * cap k

-- the level of a map of n words; 7 where n is none of the seven counts
unfoldable pub level_of : ℕ → ℕ
level_of n = first_from (λ k. eqb n (words k)) 0 7
