-- A lent store: one whose word count is none of the seven, and one of level k, whose words are a map. Assumes nothing.
use Rattle.std.specs.Prelude.{Some, None, Ok, Err, Result, ok_or, cond}
use Rattle.std.proofs.Common.{◌≡◌, refl, sym, ap, ◌∙◌, ℕ, ◌≤◌, ◌<◌, List, length, Bool, true, false, leb, arith}
use borrow.Author.Tests.{leb-false, lt-leb}
use Rattle.words.specs.Below.{below}
use Rattle.words.specs.Sizes.{words, level_of}
use Rattle.words.proofs.Levels.{words-level}
use Rattle.bitmap.specs.declared.refusal.Refusal.{Refusal}
use Rattle.bitmap.specs.declared.refusal.Refusal.TheVariants.{WordCount}
use Rattle.bitmap.specs.Answer.{Said, refused, number}
use Rattle.bitmap.specs.Calls.{answer, after}

-- what `level_of` answers of the store s
abbrev pub leveled : List ℕ → Result ℕ Refusal
leveled s = ok_or (below 7 (level_of (length s))) WordCount

none-by : (b : Bool) (n : ℕ) (r : Refusal) → Err r ≡ ok_or (cond b None (Some n)) WordCount → (b ≡ true) × (r ≡ WordCount)
none-by true n r e = (refl, cc)
none-by false n r e = absurd (cc)

level-by : (b : Bool) (n k : ℕ) → Ok k ≡ ok_or (cond b None (Some n)) WordCount → (b ≡ false) × (k ≡ n)
level-by true n k e = absurd (cc)
level-by false n k e = (refl, cc)

-- no level: refusal 1, and the words stay
module _ (s : List ℕ) (r : Refusal) (is : Err r ≡ leveled s) where
  none : (leb 7 (level_of (length s)) ≡ true) × (r ≡ WordCount)
  none = none-by (leb 7 (level_of (length s))) (level_of (length s)) r is

  pub none-answer : (f : ℕ → List ℕ → Said) → refused (number r) ≡ answer f s
  unfolding answer
  none-answer f = rw (none.0, none.1) refl

  pub none-after : (g : ℕ → List ℕ → List ℕ) → s ≡ after g s
  unfolding after
  none-after g = rw none.0 refl

-- level k: the call is that of the map
module _ (s : List ℕ) (k : ℕ) (is : k ≡ level_of (length s)) (small : k < 7) where
  some : leb 7 (level_of (length s)) ≡ false
  some = lt-leb 7 (level_of (length s)) (omega arith)

  pub answer-at : (f : ℕ → List ℕ → Said) → f k s ≡ answer f s
  unfolding answer
  answer-at f = rw (some, is) refl

  pub after-at : (g : ℕ → List ℕ → List ℕ) → g k s ≡ after g s
  unfolding after
  after-at g = rw (some, is) refl

-- the same, where `level_of` answers it
module _ (s : List ℕ) (k : ℕ) (is : Ok k ≡ leveled s) where
  level : (leb 7 (level_of (length s)) ≡ false) × (k ≡ level_of (length s))
  level = level-by (leb 7 (level_of (length s))) (level_of (length s)) k is

  small : k < 7
  small = omega (arith, leb-false 7 (level_of (length s)) level.0, level.1)

  pub map-fits : (k ≤ 6) × (length s ≡ words k)
  map-fits = (omega (arith, small), sym (ap words level.1 ∙ words-level (length s) (omega (arith, small, level.1))))

  pub map-answer : (f : ℕ → List ℕ → Said) → f k s ≡ answer f s
  map-answer = answer-at s k level.1 small

  pub map-after : (g : ℕ → List ℕ → List ℕ) → g k s ≡ after g s
  map-after = after-at s k level.1 small

-- by these the check finds every proof of a public call
pub ruleset lent = (none-answer, none-after, map-fits, map-answer, map-after)
