-- `look::leaf::leaf_bit` meets its contract. Assumes nothing.
use mathlib.Core.Path.{sym, ap, ◌∙◌}
use Prim.Native.Nat.{ℕ}
use lib.Bits.{bit_and}
use lib.ListN.{get_or}
use Rattle.words.specs.Bits.{bit}
use Rattle.words.proofs.Index.{leaf-stored}
use Rattle.look.proofs.leaf.leaf_bit.Goals as goal

pub returns : goal.returns
returns c = c.test.ensures
    ∙ ap (λ (m : ℕ). bit (get_or c.args.s.now m 0) (bit_and c.args.p 15)) c.leaf_place.ensures.0
    ∙ sym (leaf-stored c.args.k c.args.s.now c.args.p c.requires.1 c.requires.2)
