-- The public calls as data, by the definitions that their contracts cite. Definitions only.
use Rattle.std.specs.Prelude.{ℕ, Bool, false, List, [], ◌∷◌, eqb, Option}
use Rattle.bitmap.specs.Answer.{Said}
use Rattle.bitmap.specs.Calls.{alloc_says, alloc_after, run_says, run_after, next_says, give_says, give_after, give_run_says, give_run_after, give_run_old_after, range_says, insert_after, remove_after, empty_says, test_says, check_says}

-- a call with its numbers, in the order of the Rust
pub data Call : Type 0 where
  alloc : Call
  alloc_contiguous : Option ℕ → ℕ → ℕ → Call
  next : ℕ → Call
  dealloc : ℕ → Call
  dealloc_contiguous : ℕ → ℕ → Call
  dealloc_contiguous_old : ℕ → ℕ → Call
  insert : ℕ → ℕ → Call
  remove : ℕ → ℕ → Call
  is_empty : Call
  test : ℕ → Call
  check : Call

-- what it says of a map of level k
abbrev pub call_says : Call → ℕ → List ℕ → Said
call_says alloc = alloc_says
call_says (alloc_contiguous base size align) = run_says base size align
call_says (next key) = next_says key
call_says (dealloc key) = give_says key
call_says (dealloc_contiguous base size) = give_run_says base size
call_says (dealloc_contiguous_old base size) = give_run_says base size
call_says (insert a b) = range_says a b
call_says (remove a b) = range_says a b
call_says is_empty = empty_says
call_says (test key) = test_says key
call_says check = check_says

-- what it makes of the map's words
abbrev pub call_after : Call → ℕ → List ℕ → List ℕ
call_after alloc = alloc_after
call_after (alloc_contiguous base size align) = run_after base size align
call_after (next key) = λ k s. s
call_after (dealloc key) = give_after key
call_after (dealloc_contiguous base size) = give_run_after base size
call_after (dealloc_contiguous_old base size) = give_run_old_after base size
call_after (insert a b) = insert_after a b
call_after (remove a b) = remove_after a b
call_after is_empty = λ k s. s
call_after (test key) = λ k s. s
call_after check = λ k s. s

-- the one refusal that comes after words may have changed: 6 of the crate's run give-back
abbrev pub partly : Call → ℕ → Bool
partly alloc n = false
partly (alloc_contiguous base size align) n = false
partly (next key) n = false
partly (dealloc key) n = false
partly (dealloc_contiguous base size) n = false
partly (dealloc_contiguous_old base size) n = eqb n 6
partly (insert a b) n = false
partly (remove a b) n = false
partly is_empty n = false
partly (test key) n = false
partly check n = false

-- the refusals that it gives
abbrev pub refusals : Call → List ℕ
refusals alloc = 1 ∷ 5 ∷ 7 ∷ []
refusals (alloc_contiguous base size align) = 1 ∷ 2 ∷ 3 ∷ 4 ∷ 5 ∷ []
refusals (next key) = 1 ∷ 5 ∷ []
refusals (dealloc key) = 1 ∷ 2 ∷ 6 ∷ []
refusals (dealloc_contiguous base size) = 1 ∷ 2 ∷ 3 ∷ 6 ∷ []
refusals (dealloc_contiguous_old base size) = 1 ∷ 2 ∷ 3 ∷ 6 ∷ []
refusals (insert a b) = 1 ∷ 2 ∷ 3 ∷ []
refusals (remove a b) = 1 ∷ 2 ∷ 3 ∷ []
refusals is_empty = 1 ∷ []
refusals (test key) = 1 ∷ 2 ∷ []
refusals check = 1 ∷ []
