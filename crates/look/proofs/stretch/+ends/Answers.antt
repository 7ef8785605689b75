-- The cycle of calls {end_in_word, end_in_below}: the child that the key is in is asked, and its answer is the word's. Assumes nothing.
use Rattle.std.proofs.Common.{◌≡◌, sym, ap, ◌∙◌, ℕ, ◌+◌, ◌-◌, ◌/◌, ◌<◌, arith}
use native.Mathlib.Nat.{mod-lt}
use Rattle.words.specs.Sizes.{cap}
use Rattle.words.specs.Bits.{lowest_bit}
use Rattle.words.proofs.Levels.{words-pos, cap-pos, leaf-cap}
use Rattle.words.proofs.Path.{level-below, position-child}
use Rattle.look.proofs.Ends as laws
use Rattle.look.proofs.stretch.+ends.Goals as goal

-- the child that the key is in
child-at : {k key i : ℕ} → (k ≡ 0 → ⊥) → key < cap k → i ≡ key / cap (k - 1) → i < 16
child-at {k} {key} node in_map is = rw is (position-child key (level-below node) in_map)

pub end_in_word-bounds-s-0 : goal.end_in_word-bounds-s-0
end_in_word-bounds-s-0 t c = omega (arith, words-pos c.args.k)

pub end_in_word-change-requires : goal.end_in_word-change-requires
end_in_word-change-requires t c = omega (arith, leaf-cap c.if-k-eq0.true)

pub end_in_word-returns-then-k-eq0 : goal.end_in_word-returns-then-k-eq0
end_in_word-returns-then-k-eq0 t c = c.lowest.ensures ∙ ap lowest_bit c.change.ensures
    ∙ laws.end-leaf c.args.s.now c.args.key c.if-k-eq0.true (c.type_inv.s 0).fits c.requires.2

pub end_in_word-bounds-s-0-2 : goal.end_in_word-bounds-s-0-2
end_in_word-bounds-s-0-2 t c = omega (arith, words-pos c.args.k)

pub end_in_word-test-requires : goal.end_in_word-test-requires
end_in_word-test-requires t c = child-at c.if-k-eq0.false c.requires.2 c.child_of-i.ensures

pub end_in_word-returns-then-not-test : goal.end_in_word-returns-then-not-test
end_in_word-returns-then-not-test t c = sym (laws.end-off c.args.s.now c.args.key (level-below c.if-k-eq0.false) c.child_of-i.ensures (sym c.test.ensures ∙ c.if-not-test.true))

pub end_in_word-start_of-requires : goal.end_in_word-start_of-requires
end_in_word-start_of-requires t c = (omega arith, omega (arith, child-at c.if-k-eq0.false c.requires.2 c.child_of-i.ensures))

pub end_in_word-child-requires : goal.end_in_word-child-requires
end_in_word-child-requires t c =
    (omega arith, rw (level-below c.if-k-eq0.false) c.requires.1, child-at c.if-k-eq0.false c.requires.2 c.child_of-i.ensures)

pub end_in_word-end_in_below-requires : goal.end_in_word-end_in_below-requires
end_in_word-end_in_below-requires t c =
    (omega arith, (omega arith, c.child.ensures.1, rw c.rest_of.ensures (mod-lt _ (cap-pos _))))

pub end_in_word-overflow_add-result : goal.end_in_word-overflow_add-result
end_in_word-overflow_add-result t c =
    let a = c.args in
    let seen = sym c.test.ensures ∙ c.if-not-test.false in
    let answer = laws.end-in a.s.now a.key (level-below c.if-k-eq0.false) c.child_of-i.ensures seen c.rest_of.ensures c.child.ensures.0 c.end_in_below.ensures in
    omega (arith, answer, c.start_of.ensures, laws.end-small a.k a.s.now a.key c.requires.0 c.requires.2)

pub end_in_word-returns : goal.end_in_word-returns
end_in_word-returns t c =
    let seen = sym c.test.ensures ∙ c.if-not-test.false in
    ap (λ (n : ℕ). n + c.end_in_below.result) c.start_of.ensures.0
    ∙ sym (laws.end-in _ _ (level-below c.if-k-eq0.false) c.child_of-i.ensures seen c.rest_of.ensures c.child.ensures.0 c.end_in_below.ensures)
