-- A range of positions: its refusals, and what it says that there is none. Assumes nothing.
use mathlib.Core.Path.{◌≡◌, sym, ◌∙◌}
use mathlib.Core.Bool.{Bool, true, false, ◌||◌}
use Prim.Native.Nat.{ℕ, ◌+◌, ◌-◌, ◌^◌, min, ◌≤◌, ◌<◌}
use native.Mathlib.Decide.{dec_le}
use native.Mathlib.Omega.{arith}
use lib.Dec.{eqb, ltb}
use borrow.Author.Tests.{lt-ltb, le-ltb, ltb-false, ne_eqb, eqb-false}
use Rattle.words.specs.Sizes.{cap}
use Rattle.words.proofs.Tests.{or-right, neither, none-of}
use Rattle.words.proofs.Levels.{cap-small}
use Rattle.bitmap.specs.Answer.{Said, given, refused, refuse}
use Rattle.bitmap.specs.Calls.{ranged}
use Rattle.bitmap.proofs.Refusals.{refuses, passes, given-on}

module _ (k a b : ℕ) (rest : Said) where
  module _ (le : a ≤ b) where
    pub range-past : cap k < b → refused 2 ≡ ranged a b k rest
    range-past l = refuses 2 _ _ (or-right _ _ (le-ltb b a le) (lt-ltb (cap k) b l))

    module _ (room : b ≤ cap k) where
      fits : (ltb b a || ltb (cap k) b) ≡ false
      fits = neither _ _ (le-ltb b a le) (le-ltb (cap k) b room)

      pub range-some : {x : Said} → (a ≡ b → ⊥) → x ≡ rest → x ≡ ranged a b k rest
      range-some ne e = passes 2 _ _ fits (passes 3 _ _ (ne_eqb a b ne) e)

  -- a value is given: the range is neither out of the map nor empty
  pub range-given : {v : ℕ} → given v ≡ ranged a b k rest → (a < b) × (b ≤ cap k)
  range-given {v} e =
      let h = given-on v 2 (ltb b a || ltb (cap k) b) (refuse 3 (eqb a b) rest) e in
      let t = none-of (ltb b a) (ltb (cap k) b) h.0 in
      let le = ltb-false b a t.0 in
      (omega (arith, eqb-false a b (given-on v 3 (eqb a b) rest h.1).0), ltb-false (cap k) b t.1)

-- a range that is refused is refused whatever follows
pub range-refused : (k a b n : ℕ) (rest : Said) → refused n ≡ ranged a b k (given 0) → refused n ≡ ranged a b k rest
range-refused k a b n rest e = by (ltb b a || ltb (cap k) b) (eqb a b) e
  where
    by : (x y : Bool) → refused n ≡ refuse 2 x (refuse 3 y (given 0)) → refused n ≡ refuse 2 x (refuse 3 y rest)
    by true y h = h
    by false true h = h
    by false false h = let z : ◌≡◌ {A = ℕ} 0 1 = cc in absurd (omega arith)

-- the end of a run, where it is the sum or the largest number
pub range-end : (k base size end : ℕ) (rest : Said) → k ≤ 6 → end ≡ min (base + size) (2 ^ 64 - 1) → base < 2 ^ 64
    → ranged base end k rest ≡ ranged base (base + size) k rest
range-end k base size end rest small e fits = elim (dec_le (base + size) (2 ^ 64 - 1)) [
  | yes l ↦ let is : end ≡ base + size = omega arith in rw is
  | no l ↦
      let le = cap-small k small in
      sym (range-past k base end rest (omega arith) (omega arith)) ∙ range-past k base (base + size) rest (omega arith) (omega arith)
]
