-- `words::word::change_borders` meets its contract, bit by bit. Assumes nothing.
use mathlib.Core.Path.{◌∙◌}
use Prim.Native.Nat.{◌+◌}
use lib.Dec.{eqb}
use Rattle.words.specs.Bits.{within, frees}
use Rattle.words.proofs.Words.{replace-is}
use Rattle.words.proofs.word.change_borders.Goals as goal

pub returns : goal.returns
returns c = let a = c.args in
    c.with_bit-2.ensures
    ∙ replace-is (λ i. eqb i a.last) a.high _
    (c.change.ensures ∙ replace-is (within (a.first + 1) a.last) (frees a.c) _ c.with_bit.ensures)
