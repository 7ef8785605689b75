-- A word of 16 bits, as a number and as its bits. Definitions only.
use Rattle.std.specs.Prelude.{ℕ, zero, suc, ◌+◌, ◌*◌, ◌/◌, ◌%◌, ◌^◌, Bool, true, false, cond, not, ◌&&◌, eqb, leb, ltb}
use Rattle.words.specs.declared.kind.Change.{Change}
use Rattle.words.specs.declared.kind.Change.TheVariants.{Insert, Remove}
use Rattle.words.specs.Search.{first_from}

-- bit i of the number w
unfoldable pub bit : ℕ → ℕ → Bool
bit w i = eqb (w / 2 ^ i % 2) 1

-- a test as a number
abbrev pub digit : Bool → ℕ
digit true = 1
digit false = 0

-- the number whose bit i is f i for each i below n, lowest bit first
unfoldable pub pack : ℕ → (ℕ → Bool) → ℕ
pack zero f = 0
pack (suc n) f = digit (f 0) + 2 * pack n (λ i. f (suc i))

-- the 16-bit word whose bit i is f i
abbrev pub word_of : (ℕ → Bool) → ℕ
word_of f = pack 16 f

-- a word is not 0
abbrev pub some : ℕ → Bool
some w = not (eqb w 0)

-- the lowest set bit of a word, 16 where there is none
abbrev pub lowest_bit : ℕ → ℕ
lowest_bit w = first_from (bit w) 0 16

-- a ≤ i < b
abbrev pub within : ℕ → ℕ → ℕ → Bool
within a b i = leb a i && ltb i b

-- whether a change makes positions free
abbrev pub frees : Change → Bool
frees Insert = true
frees Remove = false

-- the word w with the bits from a up to b changed
abbrev pub change_word : Change → ℕ → ℕ → ℕ → ℕ
change_word c w a b = word_of (λ i. cond (within a b i) (frees c) (bit w i))
