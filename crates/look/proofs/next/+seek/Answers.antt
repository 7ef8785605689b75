-- The cycle of calls {next_node, next_below, next_children}: the key's own child is entered where its summary bit is set, and then the
-- next child of those after it. Assumes nothing.
use Rattle.std.proofs.Common.{◌≡◌, refl, sym, ap, ◌∙◌, ℕ, suc, ◌+◌, ◌-◌, ◌*◌, ◌/◌, ◌%◌, ◌<◌, arith}
use Rattle.words.specs.Below.{below}
use Rattle.words.specs.Sizes.{cap}
use Rattle.words.proofs.Levels.{words-pos, cap-pos, cap-small}
use Rattle.words.proofs.Path.{level-below}
use Rattle.words.proofs.Below.{below-some, below-none, below-found, below-missing}
use Rattle.look.proofs.Nexts as laws
use Rattle.look.proofs.next.+seek.Goals as goal
use Rattle.look.proofs.next.+seek.Goals.{next_node-then-test+in_default, next_node-else-test}

-- ---- next_children: the child whose bit is the next one set is entered

pub next_children-bounds-s-0 : goal.next_children-bounds-s-0
next_children-bounds-s-0 t c = omega (arith, words-pos (suc c.args.j))

-- the child that a turn looks into is the next one seen from `from` on
pub next_children-next_below-requires : goal.next_children-next_below-requires
next_children-next_below-requires t c =
    (omega arith, (omega arith, c.child.ensures.1, cap-pos _))

pub next_children-overflow_add-result : goal.next_children-overflow_add-result
next_children-overflow_add-result t c = omega (arith, c.start_of.ensures, below-found c.in-Some-next_below.ensures, cap-small c.args.j (omega arith))

pub next_children-returns-in-Some-next_below : goal.next_children-returns-in-Some-next_below
next_children-returns-in-Some-next_below t c =
    let at = below-found c.in-Some.ensures in
    let next = laws.next-bit _ c.loop-at.invariant.0 c.change.ensures at.0 in
    rw c.start_of.ensures.0 (laws.children-hit _ _ next at.1 (rw c.child.ensures.0 at c.in-Some-next_below.ensures) ∙ c.loop-at.invariant.1)

pub next_children-loop-at-smaller : goal.next_children-loop-at-smaller
next_children-loop-at-smaller t c =
    let at = below-found c.in-Some.ensures in
    omega (arith, at.1, (laws.next-bit _ c.loop-at.invariant.0 c.change.ensures at.0).from)

pub next_children-loop-at-preserved : goal.next_children-loop-at-preserved
next_children-loop-at-preserved t c =
    let at = below-found c.in-Some.ensures in
    let next = laws.next-bit _ c.loop-at.invariant.0 c.change.ensures at.0 in
    (omega (arith, at.1), laws.children-miss _ _ next at.1 (rw c.child.ensures.0 at c.in_default-next_below.ensures) ∙ c.loop-at.invariant.1)

pub next_children-returns : goal.next_children-returns
next_children-returns t c =
    let next = laws.next-bit _ c.loop-at.invariant.0 c.change.ensures refl in
    laws.children-none _ _ next (below-missing c.in_default.ensures) ∙ c.loop-at.invariant.1

-- ---- next_node: the key's own child

place : {k key i : ℕ} → (k ≡ 0 → ⊥) → key < cap k → i ≡ key / cap (k - 1) → laws.Stands (k - 1) key i (key % cap (k - 1))
place node in_map is = laws.stands _ (level-below node) in_map is

pub next_node-bounds-s-0 : goal.next_node-bounds-s-0
next_node-bounds-s-0 t c = omega (arith, words-pos c.args.k)

pub next_node-returns-then-q-lt16 : goal.next_node-returns-then-q-lt16
next_node-returns-then-q-lt16 t c = below-some c.if-q-lt16.true ∙ ap (below 16) c.next-q.ensures ∙ laws.found-leaf _ _ c.if-k-eq0.true

pub next_node-returns-else-q-lt16 : goal.next_node-returns-else-q-lt16
next_node-returns-else-q-lt16 t c = below-none c.if-q-lt16.false ∙ ap (below 16) c.next-q.ensures ∙ laws.found-leaf _ _ c.if-k-eq0.true

pub next_node-bounds-s-0-2 : goal.next_node-bounds-s-0-2
next_node-bounds-s-0-2 t c = omega (arith, words-pos c.args.k)

pub next_node-test-requires : goal.next_node-test-requires
next_node-test-requires t c = (place c.if-k-eq0.false c.requires.2 c.child_of-i.ensures).at

pub next_node-child-requires : goal.next_node-child-requires
next_node-child-requires t c =
    (omega arith, rw (level-below c.if-k-eq0.false) c.requires.1, (place c.if-k-eq0.false c.requires.2 c.child_of-i.ensures).at)

pub next_node-next_below-requires : goal.next_node-next_below-requires
next_node-next_below-requires t c =
    let p = place c.if-k-eq0.false c.requires.2 c.child_of-i.ensures in
    (omega arith, (omega arith, c.child.ensures.1, rw c.rest_of.ensures p.into))

pub next_node-start_of-requires : goal.next_node-start_of-requires
next_node-start_of-requires t c = (omega arith, omega (arith, (place c.if-k-eq0.false c.requires.2 c.child_of-i.ensures).at))

pub next_node-returns-in-Some : goal.next_node-returns-in-Some
next_node-returns-in-Some t c =
    let p = place c.if-k-eq0.false c.requires.2 c.child_of-i.ensures in
    let seen = sym c.test.ensures ∙ c.if-test.true in
    rw c.start_of.ensures.0
    (laws.stands-hit _ _ p seen (rw (c.child.ensures.0, c.rest_of.ensures) at c.in-Some.ensures)
    ∙ laws.found-node _ _ (level-below c.if-k-eq0.false))

pub next_node-overflow_add-i : goal.next_node-overflow_add-i
next_node-overflow_add-i t c = omega (arith, (place c.if-k-eq0.false c.requires.2 c.child_of-i.ensures).at)

pub next_node-next_children-requires : goal.next_node-next_children-requires
next_node-next_children-requires t c =
    let p = place c.if-k-eq0.false c.requires.2 c.child_of-i.ensures in
    (omega arith, (omega arith, rw (level-below c.if-k-eq0.false) c.requires.1, omega (arith, p.at)))

-- the look-up goes on after the key's own child, where it is not seen or has none
pub next_node-returns : goal.next_node-returns
next_node-returns t c =
    let p = place c.if-k-eq0.false c.requires.2 c.child_of-i.ensures in
    let bit_is = sym c.test.ensures in
    let from = laws.found (suc (c.args.k - 1)) c.args.s.now in
    let goes_on : from ((c.child_of-i.result + 1) * cap (c.args.k - 1)) ≡ from c.args.key = elim c.if-test.branch [
      | next_node-then-test+in_default w ↦ laws.stands-miss _ _ p (bit_is ∙ w.if-test.true) (rw (w.child.ensures.0, w.rest_of.ensures) at w.in_default.ensures)
      | next_node-else-test w ↦ laws.stands-unseen _ _ p (bit_is ∙ w.if-test.false)
    ] in
    c.next_children.ensures ∙ goes_on ∙ laws.found-node _ _ (level-below c.if-k-eq0.false)
