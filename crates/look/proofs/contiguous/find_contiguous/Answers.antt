-- `look::contiguous::find_contiguous` meets its contract. A turn goes to the next multiple (`base`), behind the first position from there
-- that is not free (`next`), and on to the next free one (`skip`). Assumes nothing.
use Rattle.std.proofs.Common.{◌≡◌, refl, ap, ◌∙◌, Bool, false, ℕ, ◌+◌, ◌-◌, ◌*◌, ◌/◌, ◌%◌, ◌^◌, ◌≤◌, arith}
use lib.Pow.{pow_pos}
use Rattle.words.specs.Sizes.{cap}
use Rattle.words.specs.Tree.{free?}
use Rattle.words.specs.Run.{misfit}
use Rattle.words.proofs.Below.{below-some, below-none, below-found, below-missing}
use Rattle.look.proofs.Runs as runs
use Rattle.look.proofs.contiguous.find_contiguous.Goals as goal
use Rattle.look.proofs.contiguous.find_contiguous.Goals.{Else-end-to, In_ok-at}

base : {f : ℕ → Bool} {size align x b : ℕ} (k : ℕ) → runs.Sought f (cap k) size align x → misfit (cap k) align ≡ false
    → b ≡ (x + (2 ^ align - 1)) / 2 ^ align * 2 ^ align → (x ≤ b) × runs.Sought f (cap k) size align b
base k h fit is = runs.sought-multiple h _ (runs.cap-multiple k _ (runs.fits-align _ _ fit).1) is

next : (c : Else-end-to) → let a = c.args in let e = c.end_by_level-end.result in
    (c.loop-at.at ≤ e) × runs.Sought (free? a.k a.s.now) (cap a.k) a.size a.align_log2 (e + 1)
next c =
    let b = base _ c.loop-at.invariant c.requires.3 c.align_up_log2-base.ensures in
    let e = runs.sought-next b.1 _ (omega (arith, b.1.upto)) c.end_by_level-end.ensures c.if-end-to.false in
    (omega (arith, b.0, e.0), e.1)

skip : (c : In_ok-at) → let a = c.args in let e = c.end_by_level-end.result in let p = c.in_ok-at.at in
    (c.loop-at.at ≤ e) × (e + 1 ≤ p) × runs.Sought (free? a.k a.s.now) (cap a.k) a.size a.align_log2 p
skip c =
    let e = next (goal.at.loop-at-preserved-then-at-cap c).Else-end-to in
    let p = runs.sought-free e.1 c.in_ok-at.at c.requires.2 (below-found c.in_ok-at.ensures).0 in
    (e.0, p.0, p.1)

pub overflow_sub-cap : goal.overflow_sub-cap
overflow_sub-cap c = omega (arith, (base _ c.loop-at.invariant c.requires.3 c.align_up_log2-base.ensures).1.upto)

pub returns-then-cap-base : goal.returns-then-cap-base
returns-then-cap-base c =
    let b = base _ c.loop-at.invariant c.requires.3 c.align_up_log2-base.ensures in
    below-none (omega (arith, runs.sought-short b.1 (omega arith)))

pub returns-then-end-to : goal.returns-then-end-to
returns-then-end-to c =
    let b = base _ c.loop-at.invariant c.requires.3 c.align_up_log2-base.ensures in
    let multiple =
    ap (λ (x : ℕ). x % 2 ^ c.args.align_log2) c.align_up_log2-base.ensures
    ∙ runs.up-multiple (2 ^ c.args.align_log2) c.loop-at.at (pow_pos c.args.align_log2) in
    let upto = b.1.upto in
    let here = runs.sought-here b.1 _ c.requires.2 multiple (omega arith) c.end_by_level-end.ensures c.if-end-to.true in
    rw here (below-some (omega (arith, c.requires.2)))

pub overflow_add-at : goal.overflow_add-at
overflow_add-at c = omega (arith, (next c).1.upto)

pub returns-in_err-at : goal.returns-in_err-at
returns-in_err-at c =
    let e = next (goal.at.returns-in_err-at c).Else-end-to in
    let last = runs.sought-free e.1 _ c.requires.2 refl in
    c.from_residual.ensures ∙ below-none (omega (arith, runs.sought-short last.1 (omega (arith, below-missing c.in_err-at.ensures, c.requires.2))))

pub loop-at-smaller-then-at-cap : goal.loop-at-smaller-then-at-cap
loop-at-smaller-then-at-cap c = omega (arith, skip c)

pub loop-at-preserved-then-at-cap : goal.loop-at-preserved-then-at-cap
loop-at-preserved-then-at-cap c = (skip c).2

pub loop-at-smaller : goal.loop-at-smaller
loop-at-smaller c = omega (arith, next (goal.at.loop-at-smaller c).Else-end-to)

pub loop-at-preserved : goal.loop-at-preserved
loop-at-preserved c = (next (goal.at.loop-at-preserved c).Else-end-to).1

pub returns : goal.returns
returns c = below-none (omega (arith, runs.sought-short c.loop-at.invariant (omega arith)))
