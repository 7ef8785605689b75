-- What bytes say, read as an image of a map of level k. Definitions only.
use Rattle.std.specs.Prelude.{ℕ, zero, suc, ◌+◌, ◌*◌, ◌/◌, ◌%◌, ◌<◌, ◌≡◌, Bool, List, [], ◌∷◌, eqb}
use Rattle.words.specs.Search.{all}
use Rattle.words.specs.Bits.{bit, some}
use Rattle.words.specs.Tree.{same, node}
use Rattle.image.specs.Bytes.{number_of, part}
use Rattle.words.specs.Place.{count}
use Rattle.bitmap.specs.Maps.{TrueMap}
use Rattle.image.specs.Image.{start, image}

-- the word count of the section of depth d
unfoldable pub count_in : List ℕ → ℕ → ℕ
count_in bytes d = number_of (part (start d) 4 bytes)

-- each of the sections has the word count of its depth
unfoldable pub counted : ℕ → List ℕ → Bool
counted k bytes = all (λ d. eqb (count_in bytes d) (count d)) 0 (suc k)

-- word j of the section of depth d
unfoldable pub word_in : List ℕ → ℕ → ℕ → ℕ
word_in bytes d j = number_of (part (start d + 4 + 2 * j) 2 bytes)

-- the map of level k, where f d j is word j of depth d counted from its own word's depth, at which it has the
-- number j
unfoldable pub map_from : (ℕ → ℕ → ℕ) → ℕ → ℕ → List ℕ
map_from f zero j = f 0 j ∷ []
map_from f (suc k) j = node (f 0 j) (λ i. map_from (λ d. f (suc d)) k (16 * j + i))

-- the map that the bytes are an image of
unfoldable pub map_of : ℕ → List ℕ → List ℕ
map_of k bytes = map_from (word_in bytes) k 0

-- word m below the depth d is not 0 exactly where its bit in the word above it is set
unfoldable pub word_true : (ℕ → ℕ → ℕ) → ℕ → ℕ → Bool
word_true f d m = same (bit (f d (m / 16)) (m % 16)) (some (f (suc d) m))

-- that is so of each word below the depth d
unfoldable pub depth_true : (ℕ → ℕ → ℕ) → ℕ → Bool
depth_true f d = all (word_true f d) 0 (count (suc d))

-- bytes are the image of the true map s of level k, and of no other true map
pub record Accepted (bytes : List ℕ) (k : ℕ) (s : List ℕ) : Type 0 where
  pub level : k < 7
  pub map : TrueMap k s
  pub is : image k s ≡ bytes
  pub only : (k' : ℕ) (s' : List ℕ) → k' < 7 → TrueMap k' s' → image k' s' ≡ bytes → (k' ≡ k) × (s' ≡ s)
