-- The image of a map: an opening, which is empty, and a section for each depth. Definitions only.
use Rattle.std.specs.Prelude.{ℕ, zero, suc, ◌+◌, ◌*◌, List, [], ◌++◌, eqb, length}
use Rattle.words.specs.Search.{first_from}
use Rattle.words.specs.Tree.{row}
use Rattle.image.specs.Bytes.{bytes_of, word_bytes}
use Rattle.words.specs.Place.{count}
use Rattle.image.specs.Depths.{depth_words}

-- a section: how many words there are, as 4 bytes, and then the words
unfoldable pub section : List ℕ → List ℕ
section ws = bytes_of 4 (length ws) ++ word_bytes ws

-- what stands before the first section: nothing
unfoldable pub opening : ℕ → List ℕ
opening k = []

-- the image of a map s of level k: a section for each of the depths 0 to k
unfoldable pub image : ℕ → List ℕ → List ℕ
image k s = opening k ++ row (λ d. section (depth_words k d s)) (suc k)

-- where the section of depth d starts
unfoldable pub start : ℕ → ℕ
start zero = 0
start (suc d) = start d + (4 + 2 * count d)

-- how many bytes an image has: it ends where one more section would start
abbrev pub image_length : ℕ → ℕ
image_length k = start (suc k)

-- the level of a map whose image has n bytes; 7 where n is none of the seven lengths
unfoldable pub image_level : ℕ → ℕ
image_level n = first_from (λ k. eqb n (image_length k)) 0 7
