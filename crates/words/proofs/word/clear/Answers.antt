-- `words::word::clear` meets its contract: the mask leaves none of the word's bits. Assumes nothing.
use mathlib.Core.Path.{ap, ◌∙◌}
use Prim.Native.Nat.{ℕ}
use lib.Bits.{bit_and}
use lib.Dec.{eqb}
use Rattle.words.proofs.Words.{mask-clear}
use Rattle.words.proofs.word.clear.Goals as goal

pub returns : goal.returns
returns c = let a = c.args in
    ap (λ (m : ℕ). eqb (bit_and a.w m) 0) c.mask.ensures ∙ mask-clear a.w a.start a.end c.ranges.w.fits c.requires.0 c.requires.1
