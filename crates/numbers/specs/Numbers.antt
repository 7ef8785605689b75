-- The numbers of a line, which stand between its spaces. Definitions only.
use Rattle.std.specs.Prelude.{ℕ, ◌+◌, ◌-◌, ◌*◌, ◌%◌, ◌^◌, ◌<◌, ◌≡◌, cond, List, ltb, ◌==◌, Option, None, Some, slice_get, slice_index}
use Rattle.std.specs.List.{fold, slice_split}

-- a number with one digit more, in 64 bits; a byte below the digits changes nothing
abbrev pub longer : ℕ → ℕ → ℕ
longer x b = cond (ltb b 48) x ((x * 10 + (b - 48)) % 2 ^ 64)

-- the number that the bytes of a part make
abbrev pub number : List ℕ → ℕ
number part = fold longer 0 part

-- that of a part that may be there: 0 where there is none
abbrev pub number_of : Option (List ℕ) → ℕ
number_of None = 0
number_of (Some part) = number part

-- the number behind k spaces
abbrev pub number_behind : ℕ → List ℕ → ℕ
number_behind k line = number_of (slice_get (slice_split (λ b. b == 32) line) k)

-- n numbers that are those of the line's first n parts
abbrev pub NumbersOf : ℕ → List ℕ → List ℕ → Type 0
NumbersOf n line ns = (k : ℕ) → k < n → slice_index ns k ≡ number_behind k line
