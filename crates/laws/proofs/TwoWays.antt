-- The two run give-backs beside each other and beside insert, on every lent store, true or not. Assumes nothing.
use mathlib.Core.Path.{◌≡◌, refl, sym, ap, ◌∙◌}
use mathlib.Core.Bool.{false, cond, ◌||◌}
use mathlib.Core.List.{List}
use Prim.Native.Nat.{ℕ, ◌+◌, ◌≤◌, ◌<◌}
use native.Mathlib.Omega.{arith}
use lib.Dec.{eqb, leb, ltb}
use lib.ListN.{length}
use borrow.Author.Tests.{le-ltb}
use Rattle.words.specs.declared.kind.Change.TheVariants.{Insert}
use Rattle.words.specs.Sizes.{cap, level_of}
use Rattle.words.specs.Tree.{leaf?}
use Rattle.change.specs.Change.{change}
use Rattle.change.specs.GiveBack.{first_leaf}
use Rattle.bitmap.specs.Answer.{given, refuse}
use Rattle.bitmap.specs.Calls.{answer, after, insert_after, give_run_says, give_run_after, give_run_old_after}
use Rattle.words.proofs.Search.{first-one}
use Rattle.bitmap.proofs.Refusals.{settle-on, given-on}
use Rattle.change.proofs.Leaves.{first-leaf}
use Rattle.change.proofs.GiveBacks.{give-all}
use Rattle.laws.specs.Call.{dealloc_contiguous, dealloc_contiguous_old, insert, call_says, call_after}

-- ---- of a map of level k

module _ (base size k : ℕ) (s : List ℕ) where
  abbrev to : ℕ
  to = base + size

  -- no leaf bit of the run is set: the search for one comes to the end
  none-set : ((p : ℕ) → base ≤ p → p < to → leaf? k s p ≡ false) → first_leaf k s base to ≡ to
  none-set taken = first-one (first-leaf k s base to (omega arith)) (record {
    from = omega arith;
    upto = omega arith;
    here = λ l. absurd (omega arith);
    before = taken;
  })

  -- then the two leave the same words
  map-same : first_leaf k s base to ≡ to → give_run_after base size k s ≡ give_run_old_after base size k s
  map-same e = rw (le-ltb (first_leaf k s base to) to (omega arith), give-all k s base to (omega arith) e)

  -- a give-back that succeeds is insert's
  map-inserts : given 0 ≡ give_run_says base size k s → give_run_after base size k s ≡ insert_after base to k s
  map-inserts e =
      let met = refuse 6 (ltb (first_leaf k s base to) to) (given 0) in
      let r = given-on 0 2 (ltb to base || ltb (cap k) to) (refuse 3 (eqb base to) met) e in
      let q = given-on 0 3 (eqb base to) met r.1 in
      sym (settle-on (give_run_says base size k s) 0 s (λ _. change Insert k s base to) e) ∙ sym (rw (r.0, q.0))

-- ---- of a lent store

-- Both always give the same answer.
pub same-answer : (base size : ℕ) (s : List ℕ) → answer (call_says (dealloc_contiguous base size)) s ≡ answer (call_says (dealloc_contiguous_old base size)) s
same-answer base size s = refl

-- Where no position of the run is free, by its leaf bit, both leave the same words.
pub same-words : (base size : ℕ) (s : List ℕ) → ((p : ℕ) → base ≤ p → p < base + size → leaf? (level_of (length s)) s p ≡ false)
    → after (call_after (dealloc_contiguous base size)) s ≡ after (call_after (dealloc_contiguous_old base size)) s
unfolding after
same-words base size s taken =
    let k = level_of (length s) in
    ap (λ (t : List ℕ). cond (leb 7 k) s t) (map-same base size k s (none-set base size k s taken))

-- A give-back, all or nothing, that succeeds changes the words as insert of the range does.
pub given-inserts : (base size : ℕ) (s : List ℕ) → answer (call_says (dealloc_contiguous base size)) s ≡ given 0
    → after (call_after (dealloc_contiguous base size)) s ≡ after (call_after (insert base (base + size))) s
unfolding answer after
given-inserts base size s e =
    let k = level_of (length s) in
    let r = given-on 0 1 (leb 7 k) _ (sym e) in
    ap (λ (t : List ℕ). cond (leb 7 k) s t) (map-inserts base size k s r.1)
