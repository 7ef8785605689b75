-- P1 to P12 of document 01, "Sixteen-way examples": one list of calls with what each says and leaves. All are of 256 positions, and
-- each step shows all 17 words. Definitions only.
use Rattle.std.specs.Prelude.{List, [], ◌∷◌, ◌++◌, ℕ, replicate, Some, None}
use Rattle.bitmap.specs.Answer.{Said, given, refused}
use Rattle.bitmap.specs.Calls.{answer, after}
use Rattle.laws.specs.Call.{Call, alloc, alloc_contiguous, next, dealloc, dealloc_contiguous, dealloc_contiguous_old, insert, remove, call_says, call_after}

infix 60 ◌says◌leaves◌
infixl 55 ◌then◌
-- a call, what it says, and all the words of the store after it
pub data Step : Type 0 where
  ◌says◌leaves◌ : Call → Said → List ℕ → Step

-- the words of a store, and calls of it one after the other
pub data Example : Type 0 where
  from : List ℕ → Example
  ◌then◌ : Example → Step → Example

-- the words at the end
abbrev pub left : Example → List ℕ
left (from s) = s
left (e then (c says x leaves t)) = t

-- the same calls, with what they say and leave by their own definitions: each starts from the words that the one before it left
abbrev pub redone : Example → Example
redone (from s) = from s
redone (e then (c says x leaves t)) =
    redone e then (c says answer (call_says c) (left (redone e)) leaves after (call_after c) (left (redone e)))

abbrev pub all_redone : List Example → List Example
all_redone [] = []
all_redone (e ∷ rest) = redone e ∷ all_redone rest

-- the words of a map with no position free, and with all of them free
abbrev pub none_free : List ℕ
none_free = replicate 17 0

abbrev pub all_free : List ℕ
all_free = replicate 17 0xFFFF

-- the words of a map whose free positions are those of its first leaf word w
abbrev pub only : ℕ → List ℕ
only w = 0x0001 ∷ w ∷ replicate 15 0

abbrev pub examples : List Example
examples =
    -- P1 All taken: take is 5.
    (from none_free then alloc says refused 5 leaves none_free)
    -- P2 Insert 0..16 into an empty map: words 0x0001, 0xFFFF, then 0.
    ∷ (from none_free then insert 0 16 says given 0 leaves 0x0001 ∷ 0xFFFF ∷ replicate 15 0)
    -- P3 Then remove 2..8: second word 0xFF03. Takes give 0, 1, 8 and leave 0xFE00.
    ∷ (from none_free
    then insert 0 16 says given 0 leaves 0x0001 ∷ 0xFFFF ∷ replicate 15 0
    then remove 2 8 says given 0 leaves 0x0001 ∷ 0xFF03 ∷ replicate 15 0
    then alloc says given 0 leaves 0x0001 ∷ 0xFF02 ∷ replicate 15 0
    then alloc says given 1 leaves 0x0001 ∷ 0xFF00 ∷ replicate 15 0
    then alloc says given 8 leaves 0x0001 ∷ 0xFE00 ∷ replicate 15 0)
    -- P4 Free 3 to 11 only. Align 2: sizes 4, 5 and 8 each give 4; size 9 is 5. Size 8, align 3 is 5.
    ∷ (from none_free then insert 3 12 says given 0 leaves only 0x0FF8)
    ∷ (from (only 0x0FF8) then alloc_contiguous None 4 2 says given 4 leaves only 0x0F08)
    ∷ (from (only 0x0FF8) then alloc_contiguous None 5 2 says given 4 leaves only 0x0E08)
    ∷ (from (only 0x0FF8) then alloc_contiguous None 8 2 says given 4 leaves only 0x0008)
    ∷ (from (only 0x0FF8) then alloc_contiguous None 9 2 says refused 5 leaves only 0x0FF8)
    ∷ (from (only 0x0FF8) then alloc_contiguous None 8 3 says refused 5 leaves only 0x0FF8)
    -- P5 Free 14 to 19: words 0x0003, 0xC000, 0x000F. Size 6, align 1 gives 14 and leaves all words 0.
    ∷ (from none_free
    then insert 14 20 says given 0 leaves 0x0003 ∷ 0xC000 ∷ 0x000F ∷ replicate 14 0
    then alloc_contiguous None 6 1 says given 14 leaves replicate 17 0)
    -- P6 Free 20 only; give back 0, size 32: answer 6, words 0x0003, 0xFFFF, 0x0010 the crate's way, and 0x0002, 0x0000, 0x0010 by
    -- default.
    ∷ (from none_free
    then insert 20 21 says given 0 leaves 0x0002 ∷ 0x0000 ∷ 0x0010 ∷ replicate 14 0
    then dealloc_contiguous_old 0 32 says refused 6 leaves 0x0003 ∷ 0xFFFF ∷ 0x0010 ∷ replicate 14 0)
    ∷ (from none_free
    then insert 20 21 says given 0 leaves 0x0002 ∷ 0x0000 ∷ 0x0010 ∷ replicate 14 0
    then dealloc_contiguous 0 32 says refused 6 leaves 0x0002 ∷ 0x0000 ∷ 0x0010 ∷ replicate 14 0)
    -- P7 All free: size 256, align 8 gives 0; align 9 or 64 is 4 even at base 0; size 0 is 3.
    ∷ (from none_free then insert 0 256 says given 0 leaves all_free)
    ∷ (from all_free then alloc_contiguous None 256 8 says given 0 leaves none_free)
    ∷ (from all_free then alloc_contiguous None 256 9 says refused 4 leaves all_free)
    ∷ (from all_free then alloc_contiguous None 256 64 says refused 4 leaves all_free)
    ∷ (from all_free then alloc_contiguous (Some 0) 256 9 says refused 4 leaves all_free)
    ∷ (from all_free then alloc_contiguous (Some 0) 256 64 says refused 4 leaves all_free)
    ∷ (from all_free then alloc_contiguous None 0 8 says refused 3 leaves all_free)
    ∷ (from all_free then alloc_contiguous (Some 0) 0 8 says refused 3 leaves all_free)
    -- P8 Free 255 only: `next` 255 gives 255, `next` 256 is 5.
    ∷ (from none_free
    then insert 255 256 says given 0 leaves 0x8000 ∷ replicate 15 0 ++ 0x8000 ∷ []
    then next 255 says given 255 leaves 0x8000 ∷ replicate 15 0 ++ 0x8000 ∷ []
    then next 256 says refused 5 leaves 0x8000 ∷ replicate 15 0 ++ 0x8000 ∷ [])
    -- P9 `dealloc` 256 is 2; insert 0..257 is 2; 0..0 is 3.
    ∷ (from none_free then dealloc 256 says refused 2 leaves none_free)
    ∷ (from none_free then insert 0 257 says refused 2 leaves none_free)
    ∷ (from none_free then insert 0 0 says refused 3 leaves none_free)
    -- P10 Base 18, size 2, align 2 is 4. Base 254, size 4, align 0 is 2.
    ∷ (from all_free then alloc_contiguous (Some 18) 2 2 says refused 4 leaves all_free)
    ∷ (from all_free then alloc_contiguous (Some 254) 4 0 says refused 2 leaves all_free)
    -- P11 Words 0x0001 then all 0: take is 7, `next` 0 is 5, nothing changed.
    ∷ (from (0x0001 ∷ replicate 16 0)
    then alloc says refused 7 leaves 0x0001 ∷ replicate 16 0
    then next 0 says refused 5 leaves 0x0001 ∷ replicate 16 0)
    -- P12 Free {0, 2, 3} against {0, 1, 2, 3}: run of 2, align 0, gives 2 against 0; then a take gives 0 against 2. This is why runs
    -- stand only at the end of demand 3.
    ∷ (from (only 0b1101)
    then alloc_contiguous None 2 0 says given 2 leaves only 0b0001
    then alloc says given 0 leaves none_free)
    ∷ (from (only 0b1111)
    then alloc_contiguous None 2 0 says given 0 leaves only 0b1100
    then alloc says given 2 leaves only 0b1000)
    ∷ []

-- P12: free {0, 2, 3} against {0, 1, 2, 3}, and a run of 2
abbrev pub few : List ℕ
few = only 0b1101

abbrev pub more : List ℕ
more = only 0b1111

abbrev pub pair : Call
pair = alloc_contiguous None 2 0
