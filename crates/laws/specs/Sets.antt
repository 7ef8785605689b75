-- What each call answers and does on a plain set of free positions: a test f, among the positions 0 to n - 1. Definitions only.
use Rattle.std.specs.Prelude.{ℕ, ◌+◌, ◌-◌, ◌%◌, max, Bool, cond, not, ◌&&◌, ◌||◌, eqb, leb, ltb, Some, None}
use Rattle.words.specs.Search.{first_from}
use Rattle.words.specs.Bits.{digit, within}
use Rattle.words.specs.Run.{aligned, run?, misfit}
use Rattle.bitmap.specs.Answer.{Said, given, refused, refuse}
use Rattle.laws.specs.Call.{Call, alloc, alloc_contiguous, next, dealloc, dealloc_contiguous, dealloc_contiguous_old, insert, remove, is_empty, test, check}

-- a set of positions
abbrev pub Positions : Type 0
Positions = ℕ → Bool

-- the set f, with the positions from a up to b in it, or out of it
abbrev pub with : Positions → ℕ → ℕ → Positions
with f a b p = within a b p || f p

abbrev pub without : Positions → ℕ → ℕ → Positions
without f a b p = not (within a b p) && f p

-- a position that was looked for among the n, or refusal 5 where it is past them
abbrev pub found : ℕ → ℕ → Said
found n p = refuse 5 (leb n p) (given p)

-- a range from a up to b: 2 where it is not in the map, 3 where it is empty
abbrev pub range : ℕ → ℕ → ℕ → Said → Said
range n a b rest = refuse 2 (ltb b a || ltb n b) (refuse 3 (eqb a b) rest)

-- the lowest position of the set that is key or more
abbrev pub lowest_from : Positions → ℕ → ℕ → ℕ
lowest_from f n key = first_from f key (n - key)

-- a run of size positions from base on that is given back: 6 where one of them is in the set
abbrev pub run_given : Positions → ℕ → ℕ → ℕ → Said
run_given f n base size = range n base (base + size) (refuse 6 (ltb (first_from f base size) (base + size)) (given 0))

-- up to where the crate's give-back of a run gets: to its end b, or to the start of the word of the first free position p
abbrev pub freed_up_to : ℕ → ℕ → ℕ → ℕ
freed_up_to a b p = cond (ltb p b) (max a (p - p % 16)) b

-- what a call says
abbrev pub set_says : Call → Positions → ℕ → Said
set_says alloc f n = found n (lowest_from f n 0)
set_says (alloc_contiguous None size align) f n =
    refuse 4 (misfit n align) (refuse 3 (eqb size 0) (found n (first_from (run? f n size align) 0 n)))
set_says (alloc_contiguous (Some b) size align) f n =
    refuse 4 (misfit n align || not (aligned align b))
    (refuse 3 (eqb size 0) (refuse 2 (ltb n (b + size)) (refuse 5 (not (run? f n size align b)) (given b))))
set_says (next key) f n = found n (lowest_from f n key)
set_says (dealloc key) f n = refuse 2 (leb n key) (refuse 6 (f key) (given 0))
set_says (dealloc_contiguous base size) f n = run_given f n base size
set_says (dealloc_contiguous_old base size) f n = run_given f n base size
set_says (insert a b) f n = range n a b (given 0)
set_says (remove a b) f n = range n a b (given 0)
set_says is_empty f n = given (digit (leb n (lowest_from f n 0)))
set_says (test key) f n = refuse 2 (leb n key) (given (digit (f key)))
set_says check f n = given 1

-- the set after an answer: as it was where it is a refusal
abbrev pub settled : Said → Positions → (ℕ → Positions) → Positions
settled (given v) f made = made v
settled (refused m) f made = f

-- the set after a call
abbrev pub set_after : Call → Positions → ℕ → Positions
set_after alloc f n = settled (set_says alloc f n) f (λ p. without f p (p + 1))
set_after (alloc_contiguous base size align) f n =
    settled (set_says (alloc_contiguous base size align) f n) f (λ b. without f b (b + size))
set_after (next key) f n = f
set_after (dealloc key) f n = settled (set_says (dealloc key) f n) f (λ _. with f key (key + 1))
set_after (dealloc_contiguous base size) f n = settled (run_given f n base size) f (λ _. with f base (base + size))
set_after (dealloc_contiguous_old base size) f n =
    settled (range n base (base + size) (given 0)) f
    (λ _. with f base (freed_up_to base (base + size) (first_from f base size)))
set_after (insert a b) f n = settled (range n a b (given 0)) f (λ _. with f a b)
set_after (remove a b) f n = settled (range n a b (given 0)) f (λ _. without f a b)
set_after is_empty f n = f
set_after (test key) f n = f
set_after check f n = f
