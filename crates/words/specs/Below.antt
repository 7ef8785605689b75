-- A number that may be there. Definitions only.
use Rattle.std.specs.Prelude.{ℕ, cond, leb, Option, Some, None}

-- n where it is below the bound, and otherwise nothing
abbrev pub below : ℕ → ℕ → Option ℕ
below bound n = cond (leb bound n) None (Some n)
