-- What the look-up of a run says, case by case, in the order of the refusals, and what it says that one is given. Assumes nothing.
use mathlib.Core.Path.{◌≡◌, refl, sym, ap}
use mathlib.Core.Bool.{true, false, not}
use mathlib.Core.List.{List}
use Prim.Native.Nat.{ℕ, ◌+◌, ◌≤◌, ◌<◌}
use native.Mathlib.Omega.{arith}
use lib.Dec.{eqb, leb, ltb}
use borrow.Author.Tests.{le-leb, lt-leb, leb-false, le-ltb, ltb-false, ne_eqb, eqb-false}
use Rattle.words.specs.Sizes.{cap}
use Rattle.words.specs.Tree.{free?}
use Rattle.words.specs.Run.{run?, run_in}
use Rattle.look.proofs.Runs.{run-found}
use Rattle.std.specs.Prelude.{Option, Some, None}
use Rattle.bitmap.specs.Answer.{Said, given, refused, refuse}
use Rattle.bitmap.specs.Calls.{misplaced, found_run, run_says}
use Rattle.bitmap.proofs.Refusals.{refuses, passes, given-on}

module _ (base : Option ℕ) (size align k : ℕ) (s : List ℕ) where
  module _ (fits : misplaced base align (cap k) ≡ false) where
    pub run-some : {x : Said} → (size ≡ 0 → ⊥) → x ≡ found_run base size align k s → x ≡ run_says base size align k s
    run-some some e = passes 4 _ _ fits (passes 3 _ _ (ne_eqb size 0 some) e)

module _ (size align k : ℕ) (s : List ℕ) where
  -- ---- anywhere

  pub any-none : cap k ≤ run_in (free? k s) (cap k) size align → refused 5 ≡ found_run None size align k s
  any-none l = refuses 5 _ _ (le-leb (cap k) _ l)

  pub any-found : (b : ℕ) → run_in (free? k s) (cap k) size align ≡ b → b < cap k → given b ≡ found_run None size align k s
  any-found b e l = passes 5 _ _ (lt-leb (cap k) _ (omega arith)) (ap given (sym e))

  -- ---- at a base

  module _ (b : ℕ) where
    module _ (room : b + size ≤ cap k) where
      pub at-held : run? (free? k s) (cap k) size align b ≡ false → refused 5 ≡ found_run (Some b) size align k s
      at-held e = passes 2 _ _ (le-ltb (cap k) (b + size) room) (refuses 5 _ _ (ap not e))

      pub at-found : run? (free? k s) (cap k) size align b ≡ true → given b ≡ found_run (Some b) size align k s
      at-found e = passes 2 _ _ (le-ltb (cap k) (b + size) room) (passes 5 _ _ (ap not e) refl)

-- ---- a run is given: it is not empty and lies in the map

found-fits : (base : Option ℕ) (size align k : ℕ) (s : List ℕ) (b : ℕ) → given b ≡ found_run base size align k s → b + size ≤ cap k
found-fits None size align k s b e =
    let r = run_in (free? k s) (cap k) size align in
    let h = given-on b 5 (leb (cap k) r) (given r) e in
    let is : b ≡ r = cc h.1 in
    omega (arith, (run-found (free? k s) (cap k) size align r refl (leb-false (cap k) r h.0)).0.fits)
found-fits (Some p) size align k s b e =
    let held = not (run? (free? k s) (cap k) size align p) in
    let h = given-on b 2 (ltb (cap k) (p + size)) (refuse 5 held (given p)) e in
    let is : b ≡ p = cc (given-on b 5 held (given p) h.1).1 in
    omega (arith, ltb-false (cap k) (p + size) h.0)

pub run-fits : (base : Option ℕ) (size align k : ℕ) (s : List ℕ) (b : ℕ) → given b ≡ run_says base size align k s → (0 < size) × (b + size ≤ cap k)
run-fits base size align k s b e =
    let found = found_run base size align k s in
    let h = given-on b 3 (eqb size 0) found (given-on b 4 (misplaced base align (cap k)) (refuse 3 (eqb size 0) found) e).1 in
    (omega (arith, eqb-false size 0 h.0), found-fits base size align k s b h.1)
