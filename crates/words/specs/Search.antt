-- The first of some numbers at which a test holds, and whether it holds at all of them. Definitions only.
use Rattle.std.specs.Prelude.{ℕ, zero, suc, ◌-◌, Bool, true, cond, ◌&&◌, leb}

-- the first of a, a + 1, .. (n of them) at which f holds; a + n where there is none
unfoldable pub first_from : (ℕ → Bool) → ℕ → ℕ → ℕ
first_from f a zero = a
first_from f a (suc n) = cond (f a) a (first_from f (suc a) n)

-- f holds at none of the numbers from a up to b
abbrev pub none : (ℕ → Bool) → ℕ → ℕ → Bool
none f a b = leb b (first_from f a (b - a))

-- f holds at each of a, a + 1, .. (n of them)
unfoldable pub all : (ℕ → Bool) → ℕ → ℕ → Bool
all f a zero = true
all f a (suc n) = f a && all f (suc a) n
