-- A run given back one way or the other: what it says and leaves. Assumes nothing.
use mathlib.Core.Path.{◌≡◌, refl, sym, ◌∙◌}
use mathlib.Core.Bool.{Bool, true, false, cond}
use mathlib.Core.List.{List}
use Prim.Native.Nat.{ℕ, ◌+◌, ◌-◌, ◌^◌, min, ◌<◌, ◌≤◌}
use native.Mathlib.Omega.{arith}
use lib.Dec.{leb, ltb}
use borrow.Author.Tests.{lt-ltb, le-ltb, leb-true, leb-false}
use Rattle.words.specs.declared.kind.Change.TheVariants.{Insert}
use Rattle.words.specs.Sizes.{cap}
use Rattle.change.specs.Change.{change}
use Rattle.change.specs.GiveBack.{first_leaf, give_back}
use Rattle.bitmap.specs.declared.way.Way.{Way}
use Rattle.bitmap.specs.declared.way.Way.TheVariants.{Whole, Old}
use Rattle.bitmap.specs.Answer.{Said, given, refused, refuse}
use Rattle.bitmap.specs.Calls.{settle, ranged, give_run_says}
use Rattle.bitmap.specs.Ways.{given_back, given_after}
use Rattle.bitmap.proofs.Refusals.{refuses, passes, settle-no, settle-on}
use Rattle.bitmap.proofs.Ranges.{range-some, range-refused, range-given, range-end}
use Rattle.words.proofs.Levels.{cap-small}

-- ---- the call

module _ (k base size : ℕ) (s : List ℕ) where
  abbrev end : ℕ
  end = base + size

  abbrev pub Gave : Way → Said → List ℕ → Type 0
  Gave way x t = (x ≡ give_run_says base size k s) × (t ≡ given_after way base size k s)

  -- the range is refused
  pub run-refused : (way : Way) (n : ℕ) → refused n ≡ ranged base end k (given 0) → Gave way (refused n) s
  run-refused Whole n e = let h = range-refused k base end n _ e in (h, settle-no _ n s (λ _. change Insert k s base end) h)
  run-refused Old n e = (range-refused k base end n _ e, settle-no _ n s (λ _. give_back k s base end) e)

  -- or it is not
  module _ (some : base < end) (room : end ≤ cap k) where
    whole : {x rest : Said} → x ≡ rest → x ≡ ranged base end k rest
    whole {rest = rest} e = range-some k base end rest (omega arith) room (omega arith) e

    words-are : (way : Way) → given_back way k s base end ≡ given_after way base size k s
    words-are Whole = by (ltb (first_leaf k s base end) end)
      where
        made : ℕ → List ℕ
        made _ = change Insert k s base end

        by : (t : Bool) → cond t s (made 0) ≡ settle (ranged base end k (refuse 6 t (given 0))) s made
        by true = settle-no _ 6 s made (whole refl)
        by false = settle-on _ 0 s made (whole refl)
    words-are Old = settle-on _ 0 s (λ _. give_back k s base end) (whole refl)

    pub run-given : (way : Way) {t : List ℕ} {x : Said} → t ≡ given_back way k s base end → x ≡ refuse 6 (ltb (first_leaf k s base end) end) (given 0) → Gave way x t
    run-given way et ex = (whole ex, et ∙ words-are way)

-- ---- the same by the end as `run_end` finds it

module _ (k base size end : ℕ) (s : List ℕ) (way : Way) (small : k ≤ 6) (end-is : end ≡ min (base + size) (2 ^ 64 - 1)) (number : base < 2 ^ 64) where
  sum : ranged base end k (given 0) ≡ ranged base (base + size) k (given 0)
  sum = range-end k base size end (given 0) small end-is number

  pub end-refused : {n : ℕ} → refused n ≡ ranged base end k (given 0) → Gave k base size s way (refused n) s
  end-refused {n} e = run-refused k base size s way n (e ∙ sum)

  -- the range is in the map, and whether none of it was free
  module _ (e : given 0 ≡ ranged base end k (given 0)) {t : List ℕ} (words-are : t ≡ given_back way k s base end) where
    fits : (base < base + size) × (base + size ≤ cap k)
    fits = range-given k base (base + size) (given 0) (e ∙ sum)

    exact : end ≡ base + size
    exact = omega (arith, fits, cap-small k small)

    gave : {x : Said} → x ≡ refuse 6 (ltb (first_leaf k s base end) end) (given 0) → Gave k base size s way x t
    gave h = run-given k base size s fits.0 fits.1 way (rw exact at words-are) (rw exact at h)

    pub end-free : false ≡ leb end (first_leaf k s base end) → Gave k base size s way (refused 6) t
    end-free f = gave (refuses 6 _ _ (lt-ltb _ _ (leb-false _ _ (sym f))))

    pub end-whole : true ≡ leb end (first_leaf k s base end) → Gave k base size s way (given 0) t
    end-whole f = gave (passes 6 _ _ (le-ltb _ _ (leb-true _ _ (sym f))) refl)
