-- Where a single take looks: it follows the lowest set bit of each word down. Definitions only.
use Rattle.std.specs.Prelude.{ℕ, zero, suc, ◌+◌, ◌*◌, cond, List, ltb}
use Rattle.words.specs.Bits.{lowest_bit}
use Rattle.words.specs.Sizes.{cap}
use Rattle.words.specs.Tree.{own, child}

-- the position p of child i, each child having n positions, as one of the map; past the map where p is past the child
abbrev pub out_of : ℕ → ℕ → ℕ → ℕ
out_of n i p = cond (ltb p n) (i * n + p) (16 * n)

-- the position that the lowest set bits lead to; past the map where a word on the way is 0
unfoldable pub lowest : ℕ → List ℕ → ℕ
lowest zero s = lowest_bit (own s)
lowest (suc k) s =
    cond (ltb (lowest_bit (own s)) 16)
    (out_of (cap k) (lowest_bit (own s)) (lowest k (child k s (lowest_bit (own s)))))
    (cap (suc k))
