-- What the two calls say and what they make of the target, for every input. Definitions only.
use Rattle.std.specs.Prelude.{ℕ, suc, not, ◌||◌, List, [], ◌∷◌, leb, ltb, length}
use Rattle.words.specs.Sizes.{words, level_of}
use Rattle.words.specs.Tree.{true?}
use Rattle.bitmap.specs.Answer.{Said, given, refuse}
use Rattle.bitmap.specs.Calls.{answer, settle}
use Rattle.image.specs.Bytes.{written}
use Rattle.image.specs.Image.{image, image_length, image_level}
use Rattle.image.specs.Reading.{counted, map_of}

-- ---- write

-- of a map of level k, for a target t
abbrev pub write_map : List ℕ → ℕ → List ℕ → Said
write_map t k s = refuse 7 (not (true? k s)) (refuse 9 (ltb (length t) (image_length k)) (given (image_length k)))

-- of a store s of any length, for a target t
abbrev pub write_says : List ℕ → List ℕ → Said
write_says s t = answer (write_map t) s

-- the bytes of the target after it
abbrev pub write_after : List ℕ → List ℕ → List ℕ
write_after s t = settle (write_says s t) t (λ _. written 0 (image (level_of (length s)) s) t)

-- the refusals that it gives
abbrev pub write_refusals : List ℕ
write_refusals = 1 ∷ 7 ∷ 9 ∷ []

-- ---- read

-- of bytes that have the length of an image of a map of level k, where k is below 7; for a target t
abbrev pub read_map : List ℕ → ℕ → List ℕ → Said
read_map t k bytes =
    refuse 8 (leb 7 k || not (counted k bytes))
    (refuse 9 (ltb (length t) (words k))
    (refuse 7 (not (true? k (map_of k bytes)))
    (given (suc k))))

-- of bytes of any length, for a target t
abbrev pub read_says : List ℕ → List ℕ → Said
read_says bytes t = read_map t (image_level (length bytes)) bytes

-- the words of the target after it
abbrev pub read_after : List ℕ → List ℕ → List ℕ
read_after bytes t = settle (read_says bytes t) t (λ _. written 0 (map_of (image_level (length bytes)) bytes) t)

-- the refusals that it gives
abbrev pub read_refusals : List ℕ
read_refusals = 7 ∷ 8 ∷ 9 ∷ []
