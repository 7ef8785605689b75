-- A remark on demand 3: why a request for a run stands only at the end. Assumes nothing.
use mathlib.Core.Path.{◌≡◌, refl, sym}
use mathlib.Core.Bool.{Bool, true, false, not, ◌||◌, true≢false}
use Prim.Native.Nat.{ℕ, zero, suc, ◌^◌, ◌<◌}
use native.Mathlib.Omega.{arith}
use lib.ListN.{get_or, replicate}
use borrow.Author.Tests.{ltb-true}
use Rattle.words.specs.Search.{first_from, all}
use Rattle.words.specs.Bits.{bit, pack}
use Rattle.words.specs.Sizes.{words, cap, level_of}
use Rattle.words.specs.Tree.{child, row, node, free?, true?}
use Rattle.change.specs.Renew.{replaced, marked, renew}
use Rattle.change.specs.Change.{low, high, change}
use Rattle.words.specs.Take.{lowest}
use Rattle.bitmap.specs.Answer.{Said, given}
use Rattle.bitmap.specs.Calls.{answer, after}
use Rattle.words.proofs.Search.{all-at}
use Rattle.laws.specs.Call.{alloc, call_says, call_after}
use Rattle.bitmap.specs.Maps.{TrueStore, free_in, positions}
use Rattle.laws.specs.Order.{Inside, NoHigher, StoresOrdered}
use Rattle.laws.specs.Examples.{only, few, more, pair}

-- ---- they are true maps, and the first is within the second

-- their words are of 16 bits
no-words : (n i : ℕ) → get_or (replicate n 0) i 0 < 2 ^ 16
no-words zero i = omega arith
no-words (suc n) zero = omega arith
no-words (suc n) (suc i) = no-words n i

only-fits : (w : ℕ) → w < 2 ^ 16 → (i : ℕ) → get_or (only w) i 0 < 2 ^ 16
only-fits w h zero = omega arith
only-fits w h (suc zero) = h
only-fits w h (suc (suc i)) = no-words 15 i

-- and they are true stores
only-true : (w : ℕ) → w < 2 ^ 16 → true? 1 (only w) ≡ true → TrueStore (only w)
unfolding level_of first_from words
only-true w h e = record { level = ltb-true 1 7 refl; fits = only-fits w h; truth = e }

-- each free position of the first, by a test of all 256
then-so : (a b : Bool) → (not a || b) ≡ true → a ≡ true → b ≡ true
then-so true b h e = h
then-so false b h e = absurd (true≢false (sym e))

few-inside : Inside (positions few) (free_in few) (free_in more)
unfolding level_of first_from words free? all child bit cap
few-inside p l =
    then-so (free_in few p) (free_in more p)
    (all-at (λ q. not (free_in few q) || free_in more q) 0 256 refl p (omega arith) l)

-- ---- a take of 0 against one of 2 breaks the rule

higher : (x y : Said) → x ≡ given 0 → y ≡ given 2 → ¬ NoHigher x y
higher x y e d h =
    let r = h 0 e in
    let two : 2 ≡ r.0 = cc (d, r.1) in
    omega (arith, r.2)

-- Two stores as demand 3 asks for them. After the same request for a run of both, F of the first is no longer within F of the second,
-- and the next take breaks the rule. (P12 of the examples shows the answers and the words.)
pub runs-stand-last : StoresOrdered few more
    × ¬ Inside (positions few) (free_in (after (call_after pair) few)) (free_in (after (call_after pair) more))
    × ¬ NoHigher (answer (call_says alloc) (after (call_after pair) few)) (answer (call_says alloc) (after (call_after pair) more))
unfolding first_from all bit pack words cap child row node replaced marked renew free? true? low high change lowest level_of answer after
runs-stand-last = (
  record { first = only-true 0b1101 (omega arith) refl; second = only-true 0b1111 (omega arith) refl; size = refl; inside = few-inside },
  λ h. true≢false (sym (h 0 (ltb-true 0 256 refl) refl)),
  higher _ _ refl refl,
)
