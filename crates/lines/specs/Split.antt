-- A text split at a separator byte: at 10 into lines, at 32 into fields. Definitions only.
use Rattle.std.specs.Prelude.{ℕ, cond, List, [], ◌∷◌, eqb, Option, Some, None}

-- the byte b in front of the first piece
abbrev pub on_first : ℕ → List (List ℕ) → List (List ℕ)
on_first b [] = (b ∷ []) ∷ []
on_first b (p ∷ ps) = (b ∷ p) ∷ ps

-- the pieces of a text between the bytes d: one more than there are of these
unfoldable pub pieces : ℕ → List ℕ → List (List ℕ)
pieces d [] = [] ∷ []
pieces d (b ∷ s) = cond (eqb b d) ([] ∷ pieces d s) (on_first b (pieces d s))

-- the bytes before the first d: the first piece
unfoldable pub before : ℕ → List ℕ → List ℕ
before d [] = []
before d (b ∷ s) = cond (eqb b d) [] (b ∷ before d s)

-- the bytes behind the first d, where there is one
unfoldable pub behind : ℕ → List ℕ → Option (List ℕ)
behind d [] = None
behind d (b ∷ s) = cond (eqb b d) (Some s) (behind d s)

-- a last piece is a line unless it is empty
abbrev pub last_line : List ℕ → List (List ℕ)
last_line [] = []
last_line (b ∷ p) = (b ∷ p) ∷ []

-- the pieces without a last one that is empty
unfoldable pub trimmed : List (List ℕ) → List (List ℕ)
trimmed [] = []
trimmed (p ∷ []) = last_line p
trimmed (p ∷ q ∷ ps) = p ∷ trimmed (q ∷ ps)

-- the lines of a text: a last line needs no line end, and a line end at the end adds no line
unfoldable pub lines_of : List ℕ → List (List ℕ)
lines_of s = trimmed (pieces 10 s)
