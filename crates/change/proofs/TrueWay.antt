-- Where each summary bit on the way to a position says whether its child is empty, a single take or give-back is the change of the range
-- of that one position. So it is in a true map, and in every map on the way of the lowest set bits. Assumes nothing.
use mathlib.Core.Path.{◌≡◌, refl, sym, ◌∙◌}
use mathlib.Core.Bool.{true, false, cond, ◌&&◌}
use mathlib.Core.Logic.{⊎_elim}
use mathlib.Core.List.{List}
use Prim.Native.Nat.{ℕ, zero, suc, ◌+◌, ◌/◌, ◌%◌, ◌<◌}
use native.Mathlib.Nat.{mod-lt}
use native.Mathlib.Decide.{ℕ_discrete}
use lib.Dec.{eqb}
use borrow.Author.Tests.{eq-eqb, ne_eqb}
use Rattle.words.specs.declared.kind.Change.{Change}
use Rattle.words.specs.Bits.{bit, within, some}
use Rattle.words.specs.Sizes.{cap}
use Rattle.words.specs.Tree.{own, child, true?}
use Rattle.words.specs.Take.{lowest}
use Rattle.change.specs.Renew.{replaced, marked, renew}
use Rattle.change.specs.Change.{change}
use Rattle.change.specs.Single.{turns, single}
use Rattle.std.proofs.lemmas.Bool.{cases_Bool}
use Rattle.words.proofs.Bits.{pack-ext, some-bit}
use Rattle.words.proofs.Levels.{cap-pos}
use Rattle.words.proofs.Rows.{node-ext}
use Rattle.words.proofs.Path.{position-child}
use Rattle.words.proofs.Truth.{true-is}
use Rattle.words.proofs.Turns.{still-some}
use Rattle.words.proofs.Within.{within-one}
use Rattle.change.proofs.Changes.{change-one}
use Rattle.change.proofs.TakenWay.{low-set, lowest-node}

-- each summary bit on the way to p is set exactly where its child's own word is not 0
unfoldable pub WayTrue : ℕ → List ℕ → ℕ → Type 0
WayTrue zero s p = Unit {0}
WayTrue (suc k) s p = (bit (own s) (p / cap k) ≡ some (own (child k s (p / cap k)))) × WayTrue k (child k s (p / cap k)) (p % cap k)

-- from the child that has p to the map
module _ (c : Change) (k : ℕ) (s : List ℕ) (p : ℕ) where
  abbrev at : ℕ
  at = p / cap k

  abbrev old : List ℕ
  old = child k s at

  abbrev new : List ℕ
  new = change c k old (p % cap k) (p % cap k + 1)

  module _ (says : bit (own s) at ≡ some (own old)) (same : single c k old (p % cap k) ≡ new) where
    -- a bit that is not recomputed is right already
    kept : cond (turns old new) (some (own new)) (bit (own s) at) ≡ some (own new)
    kept = ⊎_elim (λ (t : turns old new ≡ true). rw t) (λ (t : turns old new ≡ false). rw t (says ∙ still-some (own old) (own new) t)) (cases_Bool (turns old new))

    step : single c (suc k) s p ≡ change c (suc k) s p (p + 1)
    unfolding single renew marked replaced
    step = node-ext (pack-ext 16 _ _ bits) kids ∙ change-one c k s p at (p % cap k) refl refl
      where
        kids : (m : ℕ) → m < 16 → cond (eqb m at) (single c k (child k s m) (p % cap k)) (child k s m) ≡ cond (within at (at + 1) m) new (child k s m)
        kids m l = rw (within-one at m) (elim (ℕ_discrete m at) [
          | yes e ↦ rw (e, eq-eqb at at refl) same
          | no ne ↦ rw (ne_eqb m at ne)
        ])

        bits : (m : ℕ) → m < 16
            → cond (eqb m at && turns (child k s m) (single c k (child k s m) (p % cap k))) (some (own (cond (eqb m at) (single c k (child k s m) (p % cap k)) (child k s m)))) (bit (own s) m)
            ≡ cond (within at (at + 1) m) (some (own (cond (within at (at + 1) m) new (child k s m)))) (bit (own s) m)
        bits m l = rw (within-one at m) (elim (ℕ_discrete m at) [
          | yes e ↦ rw (e, eq-eqb at at refl, same) kept
          | no ne ↦ rw (ne_eqb m at ne)
        ])

pub single-change : (c : Change) (k : ℕ) (s : List ℕ) (p : ℕ) → WayTrue k s p → single c k s p ≡ change c k s p (p + 1)
unfolding single change WayTrue
single-change c zero s p way = refl
single-change c (suc k) s p way = step c k s p way.0 (single-change c k (child k s (p / cap k)) (p % cap k) way.1)

-- ---- the ways that are true

-- in a true map every way is
pub way-true : (k : ℕ) (s : List ℕ) (p : ℕ) → p < cap k → true? k s ≡ true → WayTrue k s p
unfolding WayTrue
way-true zero s p l h = tt
way-true (suc k) s p l h =
    let r = true-is k s h (p / cap k) (position-child {j = k} p refl l) in
    (r.0, way-true k (child k s (p / cap k)) (p % cap k) (mod-lt p (cap-pos k)) r.1)

-- a map in which the lowest set bits lead to a position has an own word that is not 0
lowest-some : (k : ℕ) (s : List ℕ) (p : ℕ) → p < cap k → lowest k s ≡ p → some (own s) ≡ true
unfolding lowest cap
lowest-some zero s p l is = some-bit (own s) p (low-set (own s) is l)
lowest-some (suc k) s p l is = some-bit (own s) _ (low-set (own s) (lowest-node k s p is l).0 (position-child {j = k} p refl l))

-- so their way is true in every map
pub way-lowest : (k : ℕ) (s : List ℕ) (p : ℕ) → p < cap k → lowest k s ≡ p → WayTrue k s p
unfolding WayTrue
way-lowest zero s p l is = tt
way-lowest (suc k) s p l is =
    let r = lowest-node k s p is l in
    let m = mod-lt p (cap-pos k) in
    let x = child k s (p / cap k) in
    (low-set (own s) r.0 (position-child {j = k} p refl l) ∙ sym (lowest-some k x (p % cap k) m r.1), way-lowest k x (p % cap k) m r.1)
