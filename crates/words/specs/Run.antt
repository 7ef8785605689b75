-- Look-ups and aligned runs over a set of positions, which is a test f, among the positions 0 to n - 1. Definitions only.
use Rattle.std.specs.Prelude.{ℕ, ◌+◌, ◌-◌, ◌%◌, ◌^◌, ◌≤◌, ◌<◌, ◌≡◌, Bool, true, ◌&&◌, ◌||◌, eqb, leb, ltb}
use Rattle.words.specs.Search.{first_from, all}

-- the lowest position from key on at which f holds; n or more where there is none
abbrev pub next_in : (ℕ → Bool) → ℕ → ℕ → ℕ
next_in f n key = first_from f key (n - key)

-- 2^align is no alignment of n positions
abbrev pub misfit : ℕ → ℕ → Bool
misfit n align = leb 64 align || ltb n (2 ^ align)

-- b is a multiple of 2^align
abbrev pub aligned : ℕ → ℕ → Bool
aligned align b = eqb (b % 2 ^ align) 0

-- an aligned run stands at b: its positions b to b + size - 1 are all of the n, and f holds at each of them
abbrev pub run? : (ℕ → Bool) → ℕ → ℕ → ℕ → ℕ → Bool
run? f n size align b = aligned align b && (leb (b + size) n && all f b size)

-- the same with a quantifier
pub record Run (f : ℕ → Bool) (n size align b : ℕ) : Type 0 where
  pub multiple : b % 2 ^ align ≡ 0
  pub fits : b + size ≤ n
  pub free : (q : ℕ) → b ≤ q → q < b + size → f q ≡ true

-- the lowest b at which one stands; n where there is none
abbrev pub run_in : (ℕ → Bool) → ℕ → ℕ → ℕ → ℕ
run_in f n size align = first_from (run? f n size align) 0 n
