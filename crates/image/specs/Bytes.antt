-- Numbers and words as bytes, lowest byte first, and a part of a list and a list written into another. Definitions only.
use Rattle.std.specs.Prelude.{ℕ, zero, suc, ◌+◌, ◌*◌, ◌/◌, ◌%◌, ◌<◌, List, [], ◌∷◌, ◌++◌, length, get_or, take, drop}

-- each element is a byte
abbrev pub Bytes : List ℕ → Type 0
Bytes bs = (i : ℕ) → get_or bs i 0 < 256

-- the n lowest bytes of v
unfoldable pub bytes_of : ℕ → ℕ → List ℕ
bytes_of zero v = []
bytes_of (suc n) v = v % 256 ∷ bytes_of n (v / 256)

-- the number that has these bytes
unfoldable pub number_of : List ℕ → ℕ
number_of [] = 0
number_of (b ∷ bs) = b + 256 * number_of bs

-- each word as 2 bytes, one after the other
unfoldable pub word_bytes : List ℕ → List ℕ
word_bytes [] = []
word_bytes (w ∷ ws) = bytes_of 2 w ++ word_bytes ws

-- n elements of xs from the place a on
abbrev pub part : ℕ → ℕ → List ℕ → List ℕ
part a n xs = take n (drop a xs)

-- the list t with xs in the place of as many elements from the place a on
unfoldable pub written : ℕ → List ℕ → List ℕ → List ℕ
written a xs t = take a t ++ (xs ++ drop (a + length xs) t)
