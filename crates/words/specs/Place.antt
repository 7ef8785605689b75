-- Where a word stands among its map's words, by its depth: the map's own word has depth 0, and the leaf words of a map of level k
-- have depth k. Definitions only.
use Rattle.std.specs.Prelude.{ℕ, zero, suc, ◌+◌, ◌-◌, ◌*◌, ◌/◌, ◌%◌, Bool, List, get_or}
use Rattle.words.specs.Bits.{bit}
use Rattle.words.specs.Sizes.{words, cap}

-- how many words have the depth d
unfoldable pub count : ℕ → ℕ
count zero = 1
count (suc d) = 16 * count d

-- the index of word j of depth d, counted in rising order of position, with h levels below it: a child's words stand after its parent's
-- own word and after those of the children before it
unfoldable pub place : ℕ → ℕ → ℕ → ℕ
place h zero j = 0
place h (suc d) j = place (suc h) d (j / 16) + (1 + j % 16 * words h)

-- the index of the word of level j on the way to position p, in a map of level k: the leaf word at j = 0, the own word at j = k
unfoldable pub on_way : ℕ → ℕ → ℕ → ℕ
on_way j k p = place j (k - j) (p / cap j)

-- the index of the leaf word of position p in a map of level k
abbrev pub leaf_place : ℕ → ℕ → ℕ
leaf_place k p = place 0 k (p / 16)

-- bit p of the words of s in a row from `at` on, 16 bits to a word
unfoldable pub row_bit : List ℕ → ℕ → ℕ → Bool
row_bit s at p = bit (get_or s (at + p / 16) 0) (p % 16)
