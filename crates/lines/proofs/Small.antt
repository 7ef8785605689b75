-- No reply has a number above 65,536, so that its five digits say it whole. Assumes nothing.
use mathlib.Core.Path.{◌≡◌, refl}
use mathlib.Core.Bool.{Bool, true, false, cond, not, ◌||◌}
use mathlib.Core.List.{List, [], ◌∷◌}
use Prim.Native.Nat.{ℕ, zero, suc, ◌+◌, ◌≤◌, ◌<◌}
use native.Mathlib.Omega.{arith}
use borrow.Author.Tests.{leb-false, ltb-false}
use lib.Dec.{eqb, leb, ltb}
use lib.ListN.{length, get_or}
use Rattle.words.specs.Bits.{digit}
use Rattle.words.specs.Sizes.{words, cap, level_of}
use Rattle.words.specs.Tree.{own, leaf?, free?}
use Rattle.words.specs.Take.{lowest}
use Rattle.words.specs.Run.{next_in, run?, run_in}
use Rattle.change.specs.GiveBack.{first_leaf}
use Rattle.words.proofs.Levels.{words-cap, words-level}
use Rattle.std.specs.Prelude.{Option, Some, None}
use Rattle.bitmap.specs.Answer.{Said, given, refused, refuse}
use Rattle.bitmap.specs.Calls.{answer, misplaced, found_run, ranged, alloc_says, run_says, next_says, give_says, give_run_says, range_says, empty_says, test_says}
use Rattle.lines.specs.declared.read.Line.{Line}
use Rattle.lines.specs.Number.{number_of, decimal}
use Rattle.lines.specs.Reply.{Reply, Yes, Not, No, number_in, place, done, yes, replies, allowed, reply_to}
use Rattle.lines.specs.Session.{most_words}
use Rattle.lines.proofs.Decimal.{decimal-reads}

-- ---- what a call says

-- its value, or its refusal's number
abbrev told : Said → ℕ
told (given v) = v
told (refused n) = n

record Small (x : Said) : Type 0 where
  most : told x ≤ 65536

refuse-small : (n : ℕ) (b : Bool) (rest : Said) → n ≤ 65536 → (b ≡ false → Small rest) → Small (refuse n b rest)
refuse-small n true rest h r = record { most = h }
refuse-small n false rest h r = r refl

-- a position that was looked for among n
found-small : (m n p : ℕ) → m ≤ 65536 → n ≤ 65536 → Small (refuse m (leb n p) (given p))
found-small m n p a b = refuse-small m (leb n p) (given p) a (λ e. record { most = omega (arith, leb-false n p e) })

range-small : (a b k : ℕ) (rest : Said) → Small rest → Small (ranged a b k rest)
range-small a b k rest h =
    refuse-small 2 (ltb b a || ltb (cap k) b) (refuse 3 (eqb a b) rest) (omega arith) (λ _. refuse-small 3 (eqb a b) rest (omega arith) (λ _. h))

digit-small : (b : Bool) → Small (given (digit b))
digit-small true = record { most = omega arith }
digit-small false = record { most = omega arith }

none-small : Small (given 0)
none-small = record { most = omega arith }

module _ (k : ℕ) (s : List ℕ) (h : cap k ≤ 65536) where
  alloc-small : Small (alloc_says k s)
  alloc-small = refuse-small 5 (eqb (own s) 0) _ (omega arith) (λ _. found-small 7 (cap k) (lowest k s) (omega arith) h)

  found-run-small : (base : Option ℕ) (size align : ℕ) → Small (found_run base size align k s)
  found-run-small None size align = found-small 5 (cap k) (run_in (free? k s) (cap k) size align) (omega arith) h
  found-run-small (Some b) size align =
      refuse-small 2 (ltb (cap k) (b + size)) _ (omega arith) (λ e. refuse-small 5 (not (run? (free? k s) (cap k) size align b)) (given b) (omega arith) (λ _. record { most = omega (arith, ltb-false (cap k) (b + size) e) }))

  run-small : (base : Option ℕ) (size align : ℕ) → Small (run_says base size align k s)
  run-small base size align =
      refuse-small 4 (misplaced base align (cap k)) _ (omega arith) (λ _. refuse-small 3 (eqb size 0) _ (omega arith) (λ _. found-run-small base size align))

  next-small : (key : ℕ) → Small (next_says key k s)
  next-small key = found-small 5 (cap k) (next_in (free? k s) (cap k) key) (omega arith) h

  give-small : (key : ℕ) → Small (give_says key k s)
  give-small key = refuse-small 2 (leb (cap k) key) _ (omega arith) (λ _. refuse-small 6 (leaf? k s key) (given 0) (omega arith) (λ _. none-small))

  give-run-small : (base size : ℕ) → Small (give_run_says base size k s)
  give-run-small base size = range-small base (base + size) k _ (refuse-small 6 (ltb (first_leaf k s base (base + size)) (base + size)) (given 0) (omega arith) (λ _. none-small))

  test-small : (key : ℕ) → Small (test_says key k s)
  test-small key = refuse-small 2 (leb (cap k) key) _ (omega arith) (λ _. digit-small (leaf? k s key))

-- ---- a reply

place-small : (x : Said) → Small x → number_in (place x) ≤ 65536
place-small (given p) h = h.most
place-small (refused n) h = h.most

done-small : (x : Said) → Small x → number_in (done x) ≤ 65536
done-small (given v) h = omega arith
done-small (refused n) h = h.most

yes-small : (x : Said) → Small x → number_in (yes x) ≤ 65536
yes-small (given v) h = by (eqb v 0)
  where
    by : (b : Bool) → number_in (cond b Not Yes) ≤ 65536
    by true = omega arith
    by false = omega arith
yes-small (refused n) h = h.most

-- a column of the table, row by row
unfoldable Smalls : List Reply → Type 0
Smalls [] = Unit
Smalls (r ∷ rs) = (number_in r ≤ 65536) × Smalls rs

small-at : (rs : List Reply) → Smalls rs → (n : ℕ) → number_in (get_or rs n (No 10)) ≤ 65536
unfolding Smalls
small-at [] h n = omega arith
small-at (r ∷ rs) h zero = h.0
small-at (r ∷ rs) h (suc n) = small-at rs h.1 n

module _ (s : List ℕ) (l : length s ≤ most_words) where
  -- such a map has at most 65,536 positions
  few-positions : level_of (length s) < 7 → cap (level_of (length s)) ≤ 65536
  unfolding words
  few-positions h = omega (arith, words-cap (level_of (length s)), words-level (length s) h)

  answer-small : (f : ℕ → List ℕ → Said) → ((k : ℕ) → cap k ≤ 65536 → Small (f k s)) → Small (answer f s)
  unfolding answer
  answer-small f h = refuse-small 1 (leb 7 (level_of (length s))) _ (omega arith) (λ e. h (level_of (length s)) (few-positions (leb-false 7 (level_of (length s)) e)))

  table-small : (a b c : ℕ) → Smalls (replies a b c s)
  unfolding replies Smalls words cap
  table-small a b c =
      let take = place-small _ (answer-small alloc_says (λ k h. alloc-small k s h)) in
      let run = place-small _ (answer-small (run_says None a b) (λ k h. run-small k s h None a b)) in
      let run_at = place-small _ (answer-small (run_says (Some a) b c) (λ k h. run-small k s h (Some a) b c)) in
      let free = done-small _ (answer-small (give_says a) (λ k h. give-small k s h a)) in
      let free-run = done-small _ (answer-small (give_run_says a b) (λ k h. give-run-small k s h a b)) in
      let range = done-small _ (answer-small (range_says a b) (λ k h. range-small a b k (given 0) none-small)) in
      let next = place-small _ (answer-small (next_says a) (λ k h. next-small k s h a)) in
      let test = yes-small _ (answer-small (test_says a) (λ k h. test-small k s h a)) in
      let empty = yes-small _ (answer-small empty_says (λ k h. digit-small (eqb (own s) 0))) in (
        omega arith,
        (
          omega arith,
          (
            omega arith,
            (
              omega arith,
              (
                omega arith,
                (take, (run, (run_at, (free, (free-run, (free-run, (range, (range, (next, (test, (empty, tt))))))))))),
              ),
            ),
          ),
        ),
      )

  -- Where the map has at most the words of the largest size, no reply has a number above 65,536,
  pub reply-small : (line : Line) → number_in (reply_to s line) ≤ 65536
  unfolding reply_to
  reply-small line = small-at _ (table-small line.a line.b line.c) (allowed (length s) line.code)

  -- and what is printed of it reads back as that number.
  pub reply-reads : (line : Line) → number_of (decimal (number_in (reply_to s line))) ≡ number_in (reply_to s line)
  reply-reads line = decimal-reads (number_in (reply_to s line)) (omega (arith, reply-small line))
