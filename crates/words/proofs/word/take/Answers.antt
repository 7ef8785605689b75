-- `words::word::take` meets its contract. One less than the word has its bits above the lowest one. Assumes nothing.
use mathlib.Core.Path.{◌≡◌, sym, ap, ◌∙◌}
use mathlib.Core.Bool.{true}
use Prim.Native.Nat.{ℕ, ◌<◌}
use native.Mathlib.Omega.{arith}
use Rattle.words.specs.Bits.{some}
use Rattle.words.proofs.Truth.{some-no}
use Rattle.words.proofs.Turns.{some-yes, turned-is}
use Rattle.words.proofs.Words.{less-is}
use Rattle.words.proofs.word.take.Goals as goal

was : (w : ℕ) → 0 < w → some w ≡ true
was w some_bit = some-yes w (λ z. omega arith)

pub returns-then-word-eq0 : goal.returns-then-word-eq0
returns-then-word-eq0 c = let e = less-is c.args.w c.requires c.ranges.w.fits in
    turned-is c.args.w _ e (was c.args.w c.requires) (ap some (sym e) ∙ some-no _ c.if-word-eq0.true)

pub returns-else-word-eq0 : goal.returns-else-word-eq0
returns-else-word-eq0 c = let e = less-is c.args.w c.requires c.ranges.w.fits in
    turned-is c.args.w _ e (was c.args.w c.requires) (ap some (sym e) ∙ some-yes _ c.if-word-eq0.false)
