-- What each public call says of a map and what it makes of the map's words, for every number; and the same of a lent store of any
-- length, whose word count decides the level. Definitions only.
use Rattle.std.specs.Prelude.{ℕ, ◌+◌, Bool, cond, not, ◌||◌, List, eqb, leb, ltb, length, Option, Some, None}
use Rattle.words.specs.declared.kind.Change.{Change}
use Rattle.words.specs.declared.kind.Change.TheVariants.{Insert, Remove}
use Rattle.words.specs.Bits.{digit}
use Rattle.words.specs.Sizes.{cap, level_of}
use Rattle.words.specs.Tree.{own, leaf?, free?, true?}
use Rattle.words.specs.Take.{lowest}
use Rattle.words.specs.Run.{next_in, misfit, aligned, run?, run_in}
use Rattle.change.specs.Change.{change}
use Rattle.change.specs.Single.{single}
use Rattle.change.specs.GiveBack.{first_leaf, give_back}
use Rattle.bitmap.specs.Answer.{Said, given, refused, refuse}

-- ---- a lent store

-- what a call says of a store, where f says it of a map of level k
unfoldable pub answer : (ℕ → List ℕ → Said) → List ℕ → Said
answer f s = refuse 1 (leb 7 (level_of (length s))) (f (level_of (length s)) s)

-- the words of a store after a call, where f makes them of a map
unfoldable pub after : (ℕ → List ℕ → List ℕ) → List ℕ → List ℕ
after f s = cond (leb 7 (level_of (length s))) s (f (level_of (length s)) s)

-- the words after an answer: as lent where it is a refusal, and otherwise what is made of the value given
abbrev pub settle : Said → List ℕ → (ℕ → List ℕ) → List ℕ
settle (given v) s f = f v
settle (refused n) s f = s

-- ---- alloc

abbrev pub alloc_says : ℕ → List ℕ → Said
alloc_says k s = refuse 5 (eqb (own s) 0) (refuse 7 (leb (cap k) (lowest k s)) (given (lowest k s)))

abbrev pub alloc_after : ℕ → List ℕ → List ℕ
alloc_after k s = settle (alloc_says k s) s (λ p. change Remove k s p (p + 1))

-- ---- alloc_contiguous

-- 2^align is no alignment of n positions, or the given base is no multiple of it
abbrev pub misplaced : Option ℕ → ℕ → ℕ → Bool
misplaced None align n = misfit n align
misplaced (Some b) align n = misfit n align || not (aligned align b)

-- where a run is found that is not empty
abbrev pub found_run : Option ℕ → ℕ → ℕ → ℕ → List ℕ → Said
found_run None size align k s =
    refuse 5 (leb (cap k) (run_in (free? k s) (cap k) size align)) (given (run_in (free? k s) (cap k) size align))
found_run (Some b) size align k s =
    refuse 2 (ltb (cap k) (b + size)) (refuse 5 (not (run? (free? k s) (cap k) size align b)) (given b))

abbrev pub run_says : Option ℕ → ℕ → ℕ → ℕ → List ℕ → Said
run_says base size align k s = refuse 4 (misplaced base align (cap k)) (refuse 3 (eqb size 0) (found_run base size align k s))

abbrev pub run_after : Option ℕ → ℕ → ℕ → ℕ → List ℕ → List ℕ
run_after base size align k s = settle (run_says base size align k s) s (λ b. change Remove k s b (b + size))

-- ---- next

abbrev pub next_says : ℕ → ℕ → List ℕ → Said
next_says key k s = refuse 5 (leb (cap k) (next_in (free? k s) (cap k) key)) (given (next_in (free? k s) (cap k) key))

-- ---- dealloc

abbrev pub give_says : ℕ → ℕ → List ℕ → Said
give_says key k s = refuse 2 (leb (cap k) key) (refuse 6 (leaf? k s key) (given 0))

abbrev pub give_after : ℕ → ℕ → List ℕ → List ℕ
give_after key k s = settle (give_says key k s) s (λ _. single Insert k s key)

-- ---- insert and remove

-- the refusals of a range from a up to b, and the rest where it is neither empty nor out of the map
abbrev pub ranged : ℕ → ℕ → ℕ → Said → Said
ranged a b k rest = refuse 2 (ltb b a || ltb (cap k) b) (refuse 3 (eqb a b) rest)

abbrev pub range_says : ℕ → ℕ → ℕ → List ℕ → Said
range_says a b k s = ranged a b k (given 0)

abbrev pub range_after : Change → ℕ → ℕ → ℕ → List ℕ → List ℕ
range_after c a b k s = settle (range_says a b k s) s (λ _. change c k s a b)

abbrev pub insert_after : ℕ → ℕ → ℕ → List ℕ → List ℕ
insert_after = range_after Insert

abbrev pub remove_after : ℕ → ℕ → ℕ → List ℕ → List ℕ
remove_after = range_after Remove

-- ---- dealloc_contiguous and dealloc_contiguous_old

abbrev pub give_run_says : ℕ → ℕ → ℕ → List ℕ → Said
give_run_says base size k s =
    ranged base (base + size) k (refuse 6 (ltb (first_leaf k s base (base + size)) (base + size)) (given 0))

abbrev pub give_run_after : ℕ → ℕ → ℕ → List ℕ → List ℕ
give_run_after base size k s = settle (give_run_says base size k s) s (λ _. change Insert k s base (base + size))

abbrev pub give_run_old_after : ℕ → ℕ → ℕ → List ℕ → List ℕ
give_run_old_after base size k s = settle (range_says base (base + size) k s) s (λ _. give_back k s base (base + size))

-- ---- is_empty, test and check

abbrev pub empty_says : ℕ → List ℕ → Said
empty_says k s = given (digit (eqb (own s) 0))

abbrev pub test_says : ℕ → ℕ → List ℕ → Said
test_says key k s = refuse 2 (leb (cap k) key) (given (digit (leaf? k s key)))

abbrev pub check_says : ℕ → List ℕ → Said
check_says k s = given (digit (true? k s))
