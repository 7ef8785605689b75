-- Which refusals each call gives, on every store and every number: never another, and never 0. Assumes nothing.
use mathlib.Core.Path.{◌≡◌, refl, sym, ◌∙◌}
use mathlib.Core.Bool.{true, false, not, ◌||◌, true≢false}
use mathlib.Core.List.{List}
use Prim.Native.Nat.{ℕ, ◌+◌}
use lib.Dec.{eqb, leb, ltb}
use lib.ListN.{length}
use Rattle.words.specs.Bits.{digit}
use Rattle.words.specs.Sizes.{cap, level_of}
use Rattle.words.specs.Tree.{own, leaf?, free?, true?}
use Rattle.words.specs.Take.{lowest}
use Rattle.words.specs.Run.{next_in, run?, run_in}
use Rattle.change.specs.GiveBack.{first_leaf}
use Rattle.std.specs.Prelude.{Option, Some, None}
use Rattle.bitmap.specs.Answer.{Said, given, refused, refuse, among}
use Rattle.bitmap.specs.Calls.{answer, misplaced, found_run, ranged}
use Rattle.bitmap.proofs.Refusals.{refused-among, given-among}
use Rattle.laws.specs.Call.{Call, alloc, alloc_contiguous, next, dealloc, dealloc_contiguous, dealloc_contiguous_old, insert, remove, is_empty, test, check, call_says, refusals}

module _ (n : ℕ) where
  -- 2 and 3 of a range, and then the rest
  range-among : (ns : List ℕ) (a b k : ℕ) (rest : Said) → among 2 ns ≡ true → among 3 ns ≡ true → (rest ≡ refused n → among n ns ≡ true)
      → ranged a b k rest ≡ refused n → among n ns ≡ true
  range-among ns a b k rest two three h =
      refused-among n ns 2 (ltb b a || ltb (cap k) b) _ two (refused-among n ns 3 (eqb a b) rest three h)

  found-among : (ns : List ℕ) → among 2 ns ≡ true → among 5 ns ≡ true → (base : Option ℕ) (size align k : ℕ) (s : List ℕ)
      → found_run base size align k s ≡ refused n → among n ns ≡ true
  found-among ns two five None size align k s =
      let b = run_in (free? k s) (cap k) size align in
      refused-among n ns 5 (leb (cap k) b) (given b) five (given-among n ns b)
  found-among ns two five (Some b) size align k s =
      refused-among n ns 2 (ltb (cap k) (b + size)) _ two
      (refused-among n ns 5 (not (run? (free? k s) (cap k) size align b)) (given b) five (given-among n ns b))

  given-back : (ns : List ℕ) → among 2 ns ≡ true → among 3 ns ≡ true → among 6 ns ≡ true → (a b k : ℕ) (s : List ℕ)
      → ranged a b k (refuse 6 (ltb (first_leaf k s a b) b) (given 0)) ≡ refused n → among n ns ≡ true
  given-back ns two three six a b k s =
      range-among ns a b k _ two three (refused-among n ns 6 (ltb (first_leaf k s a b) b) (given 0) six (given-among n ns 0))

  -- of a map
  pub says-among : (c : Call) (k : ℕ) (s : List ℕ) → call_says c k s ≡ refused n → among n (refusals c) ≡ true
  says-among alloc k s =
      refused-among n (refusals alloc) 5 (eqb (own s) 0) _ refl
      (refused-among n (refusals alloc) 7 (leb (cap k) (lowest k s)) (given (lowest k s)) refl (given-among n (refusals alloc) (lowest k s)))
  says-among (alloc_contiguous base size align) k s =
      let ns = refusals (alloc_contiguous base size align) in
      refused-among n ns 4 (misplaced base align (cap k)) _ refl
      (refused-among n ns 3 (eqb size 0) _ refl (found-among ns refl refl base size align k s))
  says-among (next key) k s =
      let p = next_in (free? k s) (cap k) key in
      refused-among n (refusals (next key)) 5 (leb (cap k) p) (given p) refl (given-among n (refusals (next key)) p)
  says-among (dealloc key) k s =
      let ns = refusals (dealloc key) in
      refused-among n ns 2 (leb (cap k) key) _ refl (refused-among n ns 6 (leaf? k s key) (given 0) refl (given-among n ns 0))
  says-among (dealloc_contiguous base size) k s = given-back (refusals (dealloc_contiguous base size)) refl refl refl base (base + size) k s
  says-among (dealloc_contiguous_old base size) k s = given-back (refusals (dealloc_contiguous_old base size)) refl refl refl base (base + size) k s
  says-among (insert a b) k s = range-among (refusals (insert a b)) a b k (given 0) refl refl (given-among n (refusals (insert a b)) 0)
  says-among (remove a b) k s = range-among (refusals (remove a b)) a b k (given 0) refl refl (given-among n (refusals (remove a b)) 0)
  says-among is_empty k s = given-among n (refusals is_empty) (digit (eqb (own s) 0))
  says-among (test key) k s =
      let ns = refusals (test key) in
      refused-among n ns 2 (leb (cap k) key) _ refl (given-among n ns (digit (leaf? k s key)))
  says-among check k s = given-among n (refusals check) (digit (true? k s))

  -- every call gives refusal 1
  one-among : (c : Call) → among 1 (refusals c) ≡ true
  one-among alloc = refl
  one-among (alloc_contiguous base size align) = refl
  one-among (next key) = refl
  one-among (dealloc key) = refl
  one-among (dealloc_contiguous base size) = refl
  one-among (dealloc_contiguous_old base size) = refl
  one-among (insert a b) = refl
  one-among (remove a b) = refl
  one-among is_empty = refl
  one-among (test key) = refl
  one-among check = refl

  -- On every lent store and for every number: where a call is refused, it is with one of its refusals.
  pub store-refused : (c : Call) (s : List ℕ) → answer (call_says c) s ≡ refused n → among n (refusals c) ≡ true
  unfolding answer
  store-refused c s =
      refused-among n (refusals c) 1 (leb 7 (level_of (length s))) _ (one-among c) (says-among c (level_of (length s)) s)

none-is-zero : (c : Call) → among 0 (refusals c) ≡ false
none-is-zero alloc = refl
none-is-zero (alloc_contiguous base size align) = refl
none-is-zero (next key) = refl
none-is-zero (dealloc key) = refl
none-is-zero (dealloc_contiguous base size) = refl
none-is-zero (dealloc_contiguous_old base size) = refl
none-is-zero (insert a b) = refl
none-is-zero (remove a b) = refl
none-is-zero is_empty = refl
none-is-zero (test key) = refl
none-is-zero check = refl

-- No call is refused with 0.
pub never-zero : (c : Call) (s : List ℕ) → answer (call_says c) s ≡ refused 0 → ⊥
never-zero c s e = true≢false (sym (store-refused 0 c s e) ∙ none-is-zero c)
