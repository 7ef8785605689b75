-- `look::lowest::lowest` meets its contract: the lowest set bits lead down, one child at a time (`down`). Assumes nothing.
use Rattle.std.proofs.Common.{◌≡◌, ◌∙◌, Some, None, ℕ, ◌+◌, ◌-◌, ◌*◌, ◌<◌, List, length, get_or, arith}
use Rattle.words.specs.Below.{below}
use Rattle.words.specs.Bits.{lowest_bit}
use Rattle.words.specs.Sizes.{words}
use Rattle.words.proofs.Below.{below-found, below-missing}
use Rattle.look.specs.Leads.{leads}
use Rattle.look.proofs.Descent.{Way, way-start, way-at, way-small, way-lost, way-down, way-end}
use Rattle.look.proofs.Leading.{leads-to, leads-nowhere}
use Rattle.look.proofs.lowest.lowest.Goals as goal

-- the child that the lowest set bit names
down : {k j at p i n : ℕ} {s : List ℕ} → length s ≡ words k → 0 < j → Way k s j at p → Some i ≡ below 16 (lowest_bit (get_or s at 0))
    → n ≡ words (j - 1) → Way k s (j - 1) (at + 1 + i * n) (16 * p + i)
down len some way is size = let bit = below-found is in way-down len (omega arith) way bit.0 bit.1 size

-- a word that has none
lost : {k j at p : ℕ} {s : List ℕ} → Way k s j at p → None ≡ below 16 (lowest_bit (get_or s at 0)) → None ≡ leads k s
lost way is = leads-nowhere _ _ (way-lost way (below-missing is))

pub loop-j-init : goal.loop-j-init
loop-j-init c = way-start c.args.k c.args.s.now c.requires.1

pub offset_bounds-s-at : goal.offset_bounds-s-at
offset_bounds-s-at c = omega (arith, way-small c.loop-j.invariant c.requires.0)

pub bounds-s-at : goal.bounds-s-at
bounds-s-at c = omega (arith, way-at c.loop-j.invariant, c.requires.1)

pub returns-in_err-i : goal.returns-in_err-i
returns-in_err-i c = c.from_residual.ensures ∙ lost c.loop-j.invariant c.in_err-i.ensures

pub overflow_mul-p : goal.overflow_mul-p
overflow_mul-p c = omega (arith, way-small c.loop-j.invariant c.requires.0)

pub overflow_add-p : goal.overflow_add-p
overflow_add-p c = omega (arith, way-small c.loop-j.invariant c.requires.0, below-found c.in_ok-i.ensures)

pub overflow_add-at : goal.overflow_add-at
overflow_add-at c = omega (arith, way-small c.loop-j.invariant c.requires.0)

pub overflow_mul-at : goal.overflow_mul-at
overflow_mul-at c =
    omega (arith, way-small (down c.requires.1 c.loop-j-test.true c.loop-j.invariant c.in_ok-i.ensures c.words_of.ensures) c.requires.0)

pub overflow_add-at-in-loop-j : goal.overflow_add-at-in-loop-j
overflow_add-at-in-loop-j c =
    omega (arith, way-small (down c.requires.1 c.loop-j-test.true c.loop-j.invariant c.in_ok-i.ensures c.words_of.ensures) c.requires.0)

pub loop-j-preserved : goal.loop-j-preserved
loop-j-preserved c = down c.requires.1 c.loop-j-test.true c.loop-j.invariant c.in_ok-i.ensures c.words_of.ensures

pub offset_bounds-s-at-2 : goal.offset_bounds-s-at-2
offset_bounds-s-at-2 c = omega (arith, way-small c.loop-j.invariant c.requires.0)

pub bounds-s-at-2 : goal.bounds-s-at-2
bounds-s-at-2 c = omega (arith, way-at c.loop-j.invariant, c.requires.1)

pub returns-in_err-i-2 : goal.returns-in_err-i-2
returns-in_err-i-2 c = c.from_residual-in_err-i-2.ensures ∙ lost c.loop-j.invariant c.in_err-i-2.ensures

pub overflow_mul-result : goal.overflow_mul-result
overflow_mul-result c = omega (arith, way-small c.loop-j.invariant c.requires.0)

pub overflow_add-result : goal.overflow_add-result
overflow_add-result c = omega (arith, way-small c.loop-j.invariant c.requires.0, below-found c.in_ok-i-2.ensures)

pub returns : goal.returns
returns c =
    let bit = below-found c.in_ok-i-2.ensures in
    leads-to c.args.k _ (way-end (omega arith) c.loop-j.invariant bit.0 bit.1)
