-- How a word turns between empty, which is 0, and not empty. Definitions only.
use Rattle.std.specs.Prelude.{ℕ, Bool, true, false, cond}
use Rattle.words.specs.declared.turn.Turn.{Turn}
use Rattle.words.specs.declared.turn.Turn.TheVariants.{Stayed, BecameEmpty, BecameNotEmpty}
use Rattle.words.specs.declared.turn.Turned.{Turned}
use Rattle.words.specs.Bits.{some}

-- how a word went that was v and is w
unfoldable pub turn : ℕ → ℕ → Turn
turn v w = cond (some v) (cond (some w) Stayed BecameEmpty) (cond (some w) BecameNotEmpty Stayed)

-- it went one way or the other
abbrev pub goes : Turn → Bool
goes Stayed = false
goes BecameEmpty = true
goes BecameNotEmpty = true

-- the new word w, and how v turned to it
abbrev pub turned : ℕ → ℕ → Turned
turned v w = record { word = w; turn = turn v w }
