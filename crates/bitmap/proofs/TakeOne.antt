-- A take of one position: what it says and leaves. Assumes nothing.
use mathlib.Core.Path.{◌≡◌, sym, ap, ◌∙◌}
use mathlib.Core.List.{List}
use Prim.Native.Nat.{ℕ, ◌+◌, ◌<◌}
use native.Mathlib.Omega.{arith}
use lib.Dec.{eqb, leb}
use borrow.Author.Tests.{lt-leb, eq-eqb, ne_eqb}
use Rattle.words.specs.declared.kind.Change.TheVariants.{Remove}
use Rattle.words.specs.Sizes.{cap}
use Rattle.words.specs.Tree.{own}
use Rattle.change.specs.Change.{change}
use Rattle.words.specs.Take.{lowest}
use Rattle.bitmap.specs.Answer.{Said, given, refused, refuse}
use Rattle.bitmap.specs.Calls.{alloc_says, alloc_after}
use Rattle.bitmap.proofs.Refusals.{refuses, passes, settle-no, settle-on}

-- the answer x, with the words ys after it
abbrev Took : ℕ → List ℕ → Said → List ℕ → Type 0
Took k s x ys = (x ≡ alloc_says k s) × (ys ≡ alloc_after k s)

module _ (k : ℕ) (s : List ℕ) where
  abbrev made : ℕ → List ℕ
  made p = change Remove k s p (p + 1)

  -- no word
  pub take-none : own s ≡ 0 → Took k s (refused 5) s
  take-none z =
      let e = refuses 5 (eqb (own s) 0) (refuse 7 (leb (cap k) (lowest k s)) (given (lowest k s))) (eq-eqb (own s) 0 z) in
      (e, settle-no (alloc_says k s) 5 s made e)

  module _ (ne : own s ≡ 0 → ⊥) where
    past-none : {x : Said} → x ≡ refuse 7 (leb (cap k) (lowest k s)) (given (lowest k s)) → x ≡ alloc_says k s
    past-none = passes 5 (eqb (own s) 0) _ (ne_eqb (own s) 0 ne)

    -- position p
    pub take-given : {p : ℕ} {ys : List ℕ} → lowest k s ≡ p → p < cap k → ys ≡ change Remove k s p (p + 1) → Took k s (given p) ys
    take-given {p} is l h =
        let e = past-none (passes 7 _ _ (lt-leb (cap k) (lowest k s) (omega arith)) (ap given (sym is))) in
        (e, h ∙ settle-on (alloc_says k s) p s made e)
