-- A run of one position anywhere is a single take, wherever that finds a position. Assumes nothing.
use mathlib.Core.Path.{◌≡◌, refl, sym, ◌∙◌}
use mathlib.Core.Bool.{Bool, and-true}
use mathlib.Core.List.{List}
use Prim.Native.Nat.{ℕ, ◌+◌, ◌<◌}
use native.Mathlib.Nat.{mod-one}
use native.Mathlib.Omega.{arith}
use lib.Dec.{eqb, leb}
use borrow.Author.Tests.{le-leb, le-ltb, leb-false}
use Rattle.words.specs.declared.kind.Change.TheVariants.{Remove}
use Rattle.std.specs.Prelude.{Option, Some, None, is_some, false}
use Rattle.words.specs.Search.{first_from, all}
use Rattle.words.specs.Sizes.{cap}
use Rattle.words.specs.Tree.{own, free?}
use Rattle.change.specs.Change.{change}
use Rattle.words.specs.Run.{run?, run_in}
use Rattle.words.specs.Take.{lowest}
use Rattle.bitmap.specs.Answer.{given, refuse}
use Rattle.bitmap.specs.Calls.{alloc_says, alloc_after, run_says, run_after}
use Rattle.words.proofs.Search.{first-ext}
use Rattle.words.proofs.Levels.{cap-pos}
use Rattle.look.proofs.LowestFree.{lowest-first}
use Rattle.bitmap.proofs.Refusals.{given-on, settle-on}
use Rattle.bitmap.proofs.RunCases.{run-some, any-found}

-- no base is given
pub nowhere : (base : Option ℕ) → is_some base ≡ false → base ≡ None
nowhere None e = refl
nowhere (Some b) e = absurd cc

-- the lowest run of one is the lowest position at which f holds
run-one : (f : ℕ → Bool) (n : ℕ) → run_in f n 1 0 ≡ first_from f 0 n
unfolding all
run-one f n = first-ext (run? f n 1 0) f 0 n (λ q l u. here q (omega arith))
  where
    here : (q : ℕ) → q < n → run? f n 1 0 q ≡ f q
    here q l = rw (mod-one q, le-leb (q + 1) n (omega arith)) (and-true (f q))

module _ (k : ℕ) (s : List ℕ) (p : ℕ) (e : given p ≡ alloc_says k s) where
  pub one-found : given p ≡ run_says None 1 0 k s
  one-found =
      let a = given-on p 5 (eqb (own s) 0) (refuse 7 (leb (cap k) (lowest k s)) (given (lowest k s))) e in
      let b = given-on p 7 (leb (cap k) (lowest k s)) (given (lowest k s)) a.1 in
      let l : lowest k s < cap k = leb-false (cap k) (lowest k s) b.0 in
      let is : p ≡ lowest k s = cc b.1 in
      run-some None 1 0 k s (le-ltb (cap k) 1 (cap-pos k)) (λ z. omega arith)
      (any-found 1 0 k s p (run-one (free? k s) (cap k) ∙ sym (lowest-first k s l) ∙ sym is) (rw is l))

  pub one-after : alloc_after k s ≡ run_after None 1 0 k s
  one-after = sym (settle-on (alloc_says k s) p s (λ q. change Remove k s q (q + 1)) e) ∙ settle-on (run_says None 1 0 k s) p s (λ q. change Remove k s q (q + 1)) one-found
