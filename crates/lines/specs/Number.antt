-- Decimal numbers, read and written. Definitions only.
use Rattle.std.specs.Prelude.{ℕ, zero, suc, ◌+◌, ◌-◌, ◌*◌, ◌/◌, ◌%◌, Bool, true, cond, ◌&&◌, List, [], ◌∷◌, ◌++◌, leb, ltb, length}

-- every byte is a decimal digit
unfoldable pub digits? : List ℕ → Bool
digits? [] = true
digits? (b ∷ s) = (leb 48 b && leb b 57) && digits? s

-- the value of digits that follow a number v
unfoldable pub value : ℕ → List ℕ → ℕ
value v [] = v
value v (b ∷ s) = value (v * 10 + (b - 48)) s

-- what no number of ten digits is
abbrev pub none : ℕ
none = 10000000000

-- the value of 1 to 10 digits; none of any other text
unfoldable pub number_of : List ℕ → ℕ
number_of s = cond (leb 1 (length s) && (leb (length s) 10 && digits? s)) (value 0 s) none

-- the digits of n, at most the last k of them, with no 0 in front
unfoldable pub digits : ℕ → ℕ → List ℕ
digits zero n = []
digits (suc k) n = cond (ltb n 10) ((48 + n) ∷ []) (digits k (n / 10) ++ ((48 + n % 10) ∷ []))

-- a number below 100,000 as it is printed; no reply has one above 65,536 (`reply-small` of proofs/Small.antt)
abbrev pub decimal : ℕ → List ℕ
decimal n = digits 5 n
