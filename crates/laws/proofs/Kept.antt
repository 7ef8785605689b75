-- Demand 1: a refusal leaves the words as lent. Assumes nothing.
use mathlib.Core.Path.{◌≡◌, refl, sym, ◌∙◌}
use mathlib.Core.Bool.{Bool, true, false, cond, ◌||◌, true≢false}
use mathlib.Core.List.{List}
use Prim.Native.Nat.{ℕ, ◌+◌}
use native.Mathlib.Omega.{arith}
use lib.Dec.{eqb, leb, ltb}
use lib.ListN.{length}
use borrow.Author.Tests.{eq-eqb}
use Rattle.words.specs.Sizes.{cap, level_of}
use Rattle.change.specs.GiveBack.{first_leaf, give_back}
use Rattle.bitmap.specs.Answer.{Said, given, refused, refuse}
use Rattle.bitmap.specs.Calls.{answer, after, settle, ranged, range_says}
use Rattle.bitmap.proofs.Refusals.{settle-no}
use Rattle.laws.specs.Call.{Call, alloc, alloc_contiguous, next, dealloc, dealloc_contiguous, dealloc_contiguous_old, insert, remove, is_empty, test, check, call_says, call_after, partly}

-- the words after a refusal, where they settle by the answer
settled : (x : Said) (n : ℕ) (s : List ℕ) (f : ℕ → List ℕ) → x ≡ refused n → settle x s f ≡ s
settled x n s f e = sym (settle-no x n s f (sym e))

-- a refusal but 6 of a range, after which there is only 6, is one of the range
ranged-no : (a b k : ℕ) (d : Bool) (n : ℕ) → eqb n 6 ≡ false → ranged a b k (refuse 6 d (given 0)) ≡ refused n → ranged a b k (given 0) ≡ refused n
ranged-no a b k d n h = by (ltb b a || ltb (cap k) b) (eqb a b) d
  where
    by : (x y z : Bool) → refuse 2 x (refuse 3 y (refuse 6 z (given 0))) ≡ refused n → refuse 2 x (refuse 3 y (given 0)) ≡ refused n
    by true y z e = e
    by false true z e = e
    by false false true e = let six : n ≡ 6 = cc in absurd (true≢false (sym (eq-eqb n 6 six) ∙ h))
    by false false false e = let z : ◌≡◌ {A = ℕ} 0 1 = cc in absurd (omega arith)

-- of a map
kept-map : (c : Call) (k : ℕ) (s : List ℕ) (n : ℕ) → partly c n ≡ false → call_says c k s ≡ refused n → call_after c k s ≡ s
kept-map alloc k s n h e = settled _ n s _ e
kept-map (alloc_contiguous base size align) k s n h e = settled _ n s _ e
kept-map (next key) k s n h e = refl
kept-map (dealloc key) k s n h e = settled _ n s _ e
kept-map (dealloc_contiguous base size) k s n h e = settled _ n s _ e
kept-map (dealloc_contiguous_old base size) k s n h e =
    settled (range_says base (base + size) k s) n s (λ _. give_back k s base (base + size))
    (ranged-no base (base + size) k (ltb (first_leaf k s base (base + size)) (base + size)) n h e)
kept-map (insert a b) k s n h e = settled _ n s _ e
kept-map (remove a b) k s n h e = settled _ n s _ e
kept-map is_empty k s n h e = refl
kept-map (test key) k s n h e = refl
kept-map check k s n h e = refl

-- Demand 1. For every call with its numbers and every lent store, of any length, true or not: where the call answers a refusal the
-- words afterwards are as lent, for every refusal but 6 of the crate's run give-back.
pub kept : (c : Call) (s : List ℕ) (n : ℕ) → partly c n ≡ false → answer (call_says c) s ≡ refused n → after (call_after c) s ≡ s
unfolding answer after
kept c s n h e = by (leb 7 (level_of (length s))) e
  where
    by : (b : Bool) → refuse 1 b (call_says c (level_of (length s)) s) ≡ refused n → cond b s (call_after c (level_of (length s)) s) ≡ s
    by true e = refl
    by false e = kept-map c (level_of (length s)) s n h e
