-- `change::position::give_leaf` meets its contract: a word that would stay the same has the bit. Assumes nothing.
use mathlib.Core.Path.{ap, ◌∙◌}
use Rattle.std.proofs.Common.{Some}
use borrow.Author.Rules.{rules}
use Rattle.words.specs.Tree.{Fits, own}
use Rattle.words.proofs.Turns.{word-told, turn-told}
use Rattle.change.proofs.GiveOnes.{leaf-free, leaf-taken}
use Rattle.change.proofs.position.give_leaf.Goals as goal

pub returns-then-new-old : goal.returns-then-new-old
returns-then-new-old c =
    let h = leaf-free c.args.s.now c.args.p c.requires.0 (λ i. (c.type_inv.s i).fits) c.requires.1 (word-told _ _ c.give-new.ensures) c.if-new-old.true in
    record { value = h.0; s_after = h.1 }

pub returns : goal.returns
returns c =
    let fits : Fits c.args.s.now = λ i. search rules in
    let h = leaf-taken c.args.s.now c.args.p c.requires.0 fits c.requires.1 (word-told _ _ c.give-new.ensures) c.if-new-old.false in
    record { value = ap Some (turn-told (own c.args.s.now) _ c.give-new.ensures) ∙ h.0; s_after = h.1 }
