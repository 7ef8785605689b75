-- The proof of the cycle of calls {position::give_below, position::give_node}. The measure is 2 k for the table at level k, and 2 j + 1 for
-- a map whose children have the level j. What a map finds is what its child found, unless that turned (`GiveOnes`). Assumes nothing.
use mathlib.Core.Path.{◌≡◌, refl, sym, ap, ◌∙◌}
use Rattle.std.proofs.Common.{Some}
use Prim.Native.Nat.{ℕ}
use native.Mathlib.Nat.{mod-lt}
use native.Mathlib.Omega.{arith}
use borrow.Author.Rules.{rules}
use Rattle.words.specs.declared.turn.Turn.TheVariants.{BecameNotEmpty}
use Rattle.words.proofs.Levels.{cap-pos}
use Rattle.words.proofs.Path.{Entered, enter, entered-length, position-child}
use Rattle.change.proofs.GiveOnes.{Returned, own-there, node-stayed, node-turned}
use Rattle.change.proofs.position.+give_down.Goals as goal
use Rattle.change.proofs.position.+give_down.Goals.{give_node-After-child_of-i, give_node-After-give_below}

-- the child that the position is in
part : {t : ℕ} (c : give_node-After-child_of-i t) → Entered c.args.j c.args.s.now c.child_of-i.result c.words_of-size.result
part c =
    let q = c.requires in
    enter refl (omega (arith, q)) q.1 c.words_of-size.ensures (rw c.child_of-i.ensures (position-child {j = c.args.j} c.args.p refl q.2))

-- its part is back
returned : {t : ℕ} (c : give_node-After-give_below t)
    → Returned c.args.j c.args.s.now c.args.p c.words_of-size.result c.child_of-i.result c.rest_of.result c.give_below.new.s c.give_below.result
returned c = record {
  len = c.requires.1;
  fits = λ i. search rules;
  inside = c.requires.2;
  size = c.words_of-size.ensures;
  at = c.child_of-i.ensures;
  rest = c.rest_of.ensures;
  found = c.give_below.ensures.value;
  words_are = c.give_below.ensures.s_after;
}

pub give_node-overflow_mul-from : goal.give_node-overflow_mul-from
give_node-overflow_mul-from t c = omega (arith, part c)

pub give_node-overflow_add-from : goal.give_node-overflow_add-from
give_node-overflow_add-from t c = omega (arith, part c)

pub give_node-overflow_add-to : goal.give_node-overflow_add-to
give_node-overflow_add-to t c = omega (arith, part c)

pub give_node-offset_bounds-s-from : goal.give_node-offset_bounds-s-from
give_node-offset_bounds-s-from t c = omega (arith, part c)

pub give_node-slice_bounds-give_below-end : goal.give_node-slice_bounds-give_below-end
give_node-slice_bounds-give_below-end t c = (part c).ends

pub give_node-give_below-requires : goal.give_node-give_below-requires
give_node-give_below-requires t c =
    let h = part (goal.at.give_node-give_below-requires t c).After-child_of-i in
    (omega arith, (c.requires.0, entered-length h, rw c.rest_of.ensures (mod-lt c.args.p (cap-pos c.args.j))))

-- the position was free already
pub give_node-returns-in_err-turn : goal.give_node-returns-in_err-turn
give_node-returns-in_err-turn t c =
    let n = node-stayed (returned (goal.at.give_node-returns-in_err-turn t c).After-give_below) (λ z. cc (z, c.in_err-turn.was)) in
    record { value = c.from_residual.ensures ∙ sym c.in_err-turn.was ∙ n.0; s_after = n.1 }

pub give_node-give_own-requires : goal.give_node-give_own-requires
give_node-give_own-requires t c =
    let at = goal.at.give_node-give_own-requires t c in
    (own-there (returned at.After-give_below), (part at.After-child_of-i).at)

-- the child became not empty
pub give_node-returns-in-BecameNotEmpty : goal.give_node-returns-in-BecameNotEmpty
give_node-returns-in-BecameNotEmpty t c =
    let h = returned (goal.at.give_node-returns-in-BecameNotEmpty t c).After-give_below in
    let n = node-turned h (c.in_ok-turn.was ∙ ap Some c.in-BecameNotEmpty.is) c.give_own.ensures.s_after in
    record { value = ap Some c.give_own.ensures.value ∙ n.0; s_after = n.1 }

-- it did not
pub give_node-returns-in_default : goal.give_node-returns-in_default
give_node-returns-in_default t c =
    let h = returned (goal.at.give_node-returns-in_default t c).After-give_below in
    let n = node-stayed h (λ z. let became : c.in_ok-turn.turn ≡ BecameNotEmpty = cc (z, c.in_ok-turn.was) in search rules) in
    record { value = sym c.in_ok-turn.was ∙ n.0; s_after = n.1 }
