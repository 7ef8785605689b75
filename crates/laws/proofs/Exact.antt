-- What the words of a true map say: F is its leaf bits, `is_empty` says that F is empty, `check` says that the map is true, a set has one
-- true map, and a true map is never refused with 7. Assumes nothing.
use mathlib.Core.Path.{◌≡◌, refl, sym, ◌∙◌}
use mathlib.Core.Bool.{Bool, true, false, true≢false}
use mathlib.Core.Logic.{◌↔◌, ◌≢◌, ⊎_elim}
use mathlib.Core.List.{List, [], ◌∷◌}
use Prim.Native.Nat.{ℕ, zero, suc, ◌<◌}
use native.Mathlib.Decide.{ℕ_discrete}
use native.Mathlib.Omega.{arith}
use lib.Dec.{eqb, leb}
use lib.ListN.{length}
use borrow.Author.Tests.{eq-eqb, eqb-true, leb-false}
use Rattle.words.specs.Bits.{bit, digit, some}
use Rattle.words.specs.Sizes.{cap, level_of}
use Rattle.words.specs.Tree.{own, child, leaf?, free?, true?}
use Rattle.bitmap.specs.Answer.{Said, given, refused}
use Rattle.bitmap.specs.Calls.{answer, empty_says, check_says}
use Rattle.std.proofs.lemmas.Bool.{cases_Bool}
use Rattle.bitmap.proofs.Refusals.{given-on, refused-among, given-among}
use Rattle.words.proofs.Truth.{some-no, true-is, is-true, live, own-none, free-leaf}
use Rattle.words.proofs.Turns.{some-yes}
use Rattle.laws.proofs.OneMap.{one-free}
use Rattle.laws.specs.Call.{Call, alloc, alloc_contiguous, next, dealloc, dealloc_contiguous, dealloc_contiguous_old, insert, remove, is_empty, test, check, call_says}
use Rattle.laws.specs.Sets.{lowest_from}
use Rattle.laws.proofs.Refused.{says-among}
use Rattle.bitmap.specs.Maps.{Truthful, TrueMap, TrueStore, free_in, positions}
use Rattle.laws.proofs.AsSets.{as-set, map-of, answer-level}

-- In a true map F is the set of leaf bits.
pub free-is-leaf : (k : ℕ) (s : List ℕ) → TrueMap k s → (p : ℕ) → p < cap k → free? k s p ≡ leaf? k s p
free-is-leaf k s m p l = free-leaf k s p m.truth l

-- Two true maps of one level with the same F are the same words.
pub one-true-map : (k : ℕ) (s t : List ℕ) → TrueMap k s → TrueMap k t → ((p : ℕ) → p < cap k → free? k s p ≡ free? k t p) → s ≡ t
one-true-map k s t m n e = one-free k s t m.sized n.sized m.fits n.fits m.truth n.truth e

-- ---- is_empty

-- a test that is told as 1
told-yes : (b : Bool) → (given (digit b) ≡ given 1) ↔ (b ≡ true)
told-yes true = (λ e. refl, λ e. refl)
told-yes false = (λ e. let z : ◌≡◌ {A = ℕ} 0 1 = cc in absurd (omega arith), λ e. absurd (true≢false (sym e)))

-- Of a true map `is_empty` says 1 exactly when F has no position.
pub empty-exactly : (k : ℕ) (s : List ℕ) → TrueMap k s → (empty_says k s ≡ given 1) ↔ ((p : ℕ) → p < cap k → free? k s p ≡ false)
empty-exactly k s m =
    let yes-is = told-yes (eqb (own s) 0) in (
      λ e p l. free-leaf k s p m.truth l ∙ live k s p m.truth (eqb-true (own s) 0 (yes-is.0 e)) l,
      λ none. yes-is.1 (eq-eqb (own s) 0 (own-none k s m.truth m.fits (λ p l. sym (free-leaf k s p m.truth l) ∙ none p l))),
    )

-- The same of the call on a lent store that is a true map.
pub store-empty-exactly : (s : List ℕ) → TrueStore s
    → (answer (call_says is_empty) s ≡ given 1) ↔ ((p : ℕ) → p < positions s → free_in s p ≡ false)
store-empty-exactly s h = rw (answer-level s h.level empty_says) (empty-exactly (level_of (length s)) s (map-of s h))

-- ---- check

-- a bit that is set exactly where a word is not 0 is the test of that word
bit-some : (b : Bool) (w : ℕ) → ((b ≡ true) ↔ (w ≢ 0)) → b ≡ some w
bit-some b w h = ⊎_elim
    (λ e. e ∙ sym (some-yes w (h.0 e)))
    (λ e. elim (ℕ_discrete w 0) [
      | yes z ↦ e ∙ sym (some-no w z)
      | no ne ↦ absurd (true≢false (sym (h.1 ne) ∙ e))
    ])
    (cases_Bool b)

-- The test of a map's truth holds exactly where every summary bit is set exactly where the child's own word is not 0.
pub true-exactly : (k : ℕ) (s : List ℕ) → (true? k s ≡ true) ↔ Truthful k s
unfolding true? Truthful
true-exactly zero s = (λ _. tt, λ _. refl)
true-exactly (suc k) s = (
  λ h i l.
      let r = true-is k s h i l in
      let w = own (child k s i) in
      ((λ e z. true≢false (sym e ∙ r.0 ∙ some-no w z), λ ne. r.0 ∙ some-yes w ne), (true-exactly k (child k s i)).0 r.1),
  λ h. is-true k s (λ i l. (bit-some (bit (own s) i) (own (child k s i)) (h i l).0, (true-exactly k (child k s i)).1 (h i l).1)),
)

-- `check` says 1 exactly on true maps.
pub check-exactly : (k : ℕ) (s : List ℕ) → (check_says k s ≡ given 1) ↔ Truthful k s
check-exactly k s =
    let yes-is = told-yes (true? k s) in
    let t = true-exactly k s in
    (λ e. t.0 (yes-is.0 e), λ h. yes-is.1 (t.1 h))

-- a call that gives a value was on a store of one of the seven sizes
level-given : (f : ℕ → List ℕ → Said) (s : List ℕ) (v : ℕ) → answer f s ≡ given v → level_of (length s) < 7
unfolding answer
level-given f s v e = leb-false 7 (level_of (length s)) (given-on v 1 (leb 7 (level_of (length s))) (f (level_of (length s)) s) (sym e)).0

-- The same of the call on a lent store of any length: it says 1 exactly where the word count is one of the seven and the map is true.
pub store-check-exactly : (s : List ℕ) → (answer (call_says check) s ≡ given 1) ↔ ((level_of (length s) < 7) × Truthful (level_of (length s)) s)
store-check-exactly s =
    let says = check-exactly (level_of (length s)) s in (
      λ e. let l = level-given check_says s 1 e in (l, says.0 (sym (answer-level s l check_says) ∙ e)),
      λ h. answer-level s h.0 check_says ∙ says.1 h.1,
    )

-- ---- refusal 7

-- No call on a true map is refused with 7: a take finds a position or is refused with 5, and 7 is no refusal of another call.
pub never-untrue : (c : Call) (k : ℕ) (s : List ℕ) → TrueMap k s → call_says c k s ≡ refused 7 → ⊥
never-untrue alloc k s m e =
    let p = lowest_from (free? k s) (cap k) 0 in
    let h = sym (as-set alloc k s m).says ∙ e in
    true≢false (sym (refused-among 7 (5 ∷ []) 5 (leb (cap k) p) (given p) refl (given-among 7 (5 ∷ []) p) h))
never-untrue (alloc_contiguous base size align) k s m e = true≢false (sym (says-among 7 (alloc_contiguous base size align) k s e))
never-untrue (next key) k s m e = true≢false (sym (says-among 7 (next key) k s e))
never-untrue (dealloc key) k s m e = true≢false (sym (says-among 7 (dealloc key) k s e))
never-untrue (dealloc_contiguous base size) k s m e = true≢false (sym (says-among 7 (dealloc_contiguous base size) k s e))
never-untrue (dealloc_contiguous_old base size) k s m e = true≢false (sym (says-among 7 (dealloc_contiguous_old base size) k s e))
never-untrue (insert a b) k s m e = true≢false (sym (says-among 7 (insert a b) k s e))
never-untrue (remove a b) k s m e = true≢false (sym (says-among 7 (remove a b) k s e))
never-untrue is_empty k s m e = true≢false (sym (says-among 7 is_empty k s e))
never-untrue (test key) k s m e = true≢false (sym (says-among 7 (test key) k s e))
never-untrue check k s m e = true≢false (sym (says-among 7 check k s e))

-- Nor is one on a lent store that is a true map.
pub store-never-untrue : (c : Call) (s : List ℕ) → TrueStore s → answer (call_says c) s ≡ refused 7 → ⊥
store-never-untrue c s h e = never-untrue c (level_of (length s)) s (map-of s h) (sym (answer-level s h.level (call_says c)) ∙ e)
