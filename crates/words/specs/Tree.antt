-- A map as the list of its words: its own word, then its 16 children one after the other, each laid out in the same way.
-- k is the level of a map, the levels below its own word. Definitions only.
use Rattle.std.specs.Prelude.{ℕ, zero, suc, ◌+◌, ◌*◌, ◌/◌, ◌%◌, ◌^◌, ◌<◌, Bool, true, false, not, ◌&&◌, List, [], ◌∷◌, ◌++◌, get_or, take, drop}
use Rattle.words.specs.Search.{all}
use Rattle.words.specs.Bits.{bit, some}
use Rattle.words.specs.Sizes.{words, cap}

-- each word is one of 16 bits
abbrev pub Fits : List ℕ → Type 0
Fits s = (i : ℕ) → get_or s i 0 < 2 ^ 16

-- a map's own word
abbrev pub own : List ℕ → ℕ
own s = get_or s 0 0

-- child i of a map whose children have the level k
unfoldable pub child : ℕ → List ℕ → ℕ → List ℕ
child k s i = take (words k) (drop (1 + i * words k) s)

-- f 0, f 1, .. , f (n - 1), one after the other
unfoldable pub row : (ℕ → List ℕ) → ℕ → List ℕ
row f zero = []
row f (suc n) = row f n ++ f n

-- the map with the own word w and the children f 0, .. , f 15
unfoldable pub node : ℕ → (ℕ → List ℕ) → List ℕ
node w f = w ∷ row f 16

-- the leaf bit at position p
unfoldable pub leaf? : ℕ → List ℕ → ℕ → Bool
leaf? zero s p = bit (own s) p
leaf? (suc k) s p = leaf? k (child k s (p / cap k)) (p % cap k)

-- document 01's F: the leaf bit at position p is set, and so is each summary bit above it
unfoldable pub free? : ℕ → List ℕ → ℕ → Bool
free? zero s p = bit (own s) p
free? (suc k) s p = bit (own s) (p / cap k) && free? k (child k s (p / cap k)) (p % cap k)

-- two tests that say the same
abbrev pub same : Bool → Bool → Bool
same true b = b
same false b = not b

-- each summary bit is set exactly where the child's own word is not 0
unfoldable pub true? : ℕ → List ℕ → Bool
true? zero s = true
true? (suc k) s = all (λ i. same (bit (own s) i) (some (own (child k s i))) && true? k (child k s i)) 0 16
