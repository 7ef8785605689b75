-- `words::word::give` meets its contract. A word with a set bit is not empty. Assumes nothing.
use mathlib.Core.Path.{◌≡◌}
use mathlib.Core.Bool.{true, cond}
use Prim.Native.Nat.{ℕ, ◌<◌, ◌*◌, ◌%◌, ◌^◌}
use lib.Bits.{bit_or}
use lib.Dec.{eqb}
use Rattle.words.specs.Bits.{bit, word_of}
use Rattle.words.proofs.Truth.{some-no}
use Rattle.words.proofs.Turns.{some-yes, some-stored, turned-is}
use Rattle.words.proofs.Words.{shl-one, set-is}
use Rattle.words.proofs.word.give.Goals as goal

-- the new word
is : (w i : ℕ) → w < 2 ^ 16 → i < 16 → bit_or w (1 * 2 ^ i % 2 ^ 16) ≡ word_of (λ j. cond (eqb j i) true (bit w j))
is w i fits within = rw (shl-one 16 i within) (set-is w i fits within)

pub returns-then-w-eq0 : goal.returns-then-w-eq0
returns-then-w-eq0 c = let a = c.args in
    turned-is a.w _ (is a.w a.i c.ranges.w.fits c.requires) (some-no a.w c.if-w-eq0.true) (some-stored a.w a.i c.requires)

pub returns-else-w-eq0 : goal.returns-else-w-eq0
returns-else-w-eq0 c = let a = c.args in
    turned-is a.w _ (is a.w a.i c.ranges.w.fits c.requires) (some-yes a.w c.if-w-eq0.false) (some-stored a.w a.i c.requires)
