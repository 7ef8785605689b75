-- `bitmap::contiguous::find_run` meets its contract: a run stands at the base exactly where the free positions from the base on end past
-- the run. Assumes nothing.
use Rattle.std.proofs.Common.{◌≡◌, sym, ap, ◌∙◌, true, false, not, ℕ, ◌+◌, ◌-◌, ◌≤◌, arith}
use borrow.Author.Tests.{eqb-true, not-false}
use Rattle.words.specs.Search.{first_from}
use Rattle.words.specs.Sizes.{cap}
use Rattle.words.specs.Tree.{free?}
use Rattle.words.specs.Run.{misfit, aligned}
use Rattle.words.proofs.Tests.{none-of}
use Rattle.words.proofs.Levels.{cap-small}
use Rattle.look.proofs.Runs.{run-whole, run-cut}
use Rattle.std.specs.Prelude.{Some}
use Rattle.bitmap.specs.Calls.{misplaced}
use Rattle.bitmap.proofs.RunCases as cases
use Rattle.bitmap.proofs.contiguous.find_run.Goals as goal

-- a base that is not misplaced is a multiple
multiple : (align b n : ℕ) → misplaced (Some b) align n ≡ false → aligned align b ≡ true
multiple align b n fits = not-false (aligned align b) (none-of (misfit n align) (not (aligned align b)) fits).1

pub returns-then-end_by_level-to : goal.returns-then-end_by_level-to
returns-then-end_by_level-to c =
    let a = c.args in
    let b = c.in-Some.b in
    let placed = ap (misplaced a.base a.align_log2) (sym c.cap_of-cap.ensures.0) ∙ sym c.misplaced.ensures ∙ c.if-misplaced.false in
    let fits = rw c.in-Some.is at placed in
    let to_is : c.run_end-to.result ≡ b + a.size = omega (arith, cap-small a.k c.requires.0) in
    let room : b + a.size ≤ cap a.k = omega (arith, to_is) in
    let end_is = c.end_by_level.ensures ∙ ap (λ (n : ℕ). first_from (λ p. not (free? a.k a.s.now p)) b (n - b)) to_is in
    let whole =
    run-whole (free? a.k a.s.now) b a.size _ end_is (cap a.k) a.align_log2 (eqb-true _ _ (multiple a.align_log2 b (cap a.k) fits)) room
    (c.if-end_by_level-to.true ∙ to_is) in
    rw c.in-Some.is (cases.run-some (Some b) _ _ a.k _ fits c.if-size-eq0.false (cases.at-found a.size a.align_log2 a.k a.s.now b room whole))

pub returns-else-end_by_level-to : goal.returns-else-end_by_level-to
returns-else-end_by_level-to c =
    let a = c.args in
    let b = c.in-Some.b in
    let placed = ap (misplaced a.base a.align_log2) (sym c.cap_of-cap.ensures.0) ∙ sym c.misplaced.ensures ∙ c.if-misplaced.false in
    let fits = rw c.in-Some.is at placed in
    let to_is : c.run_end-to.result ≡ b + a.size = omega (arith, cap-small a.k c.requires.0) in
    let room : b + a.size ≤ cap a.k = omega (arith, to_is) in
    let end_is = c.end_by_level.ensures ∙ ap (λ (n : ℕ). first_from (λ p. not (free? a.k a.s.now p)) b (n - b)) to_is in
    let cut =
    run-cut (free? a.k a.s.now) b a.size _ end_is (cap a.k) a.align_log2 (λ w. c.if-end_by_level-to.false (w ∙ sym to_is)) in
    rw c.in-Some.is (cases.run-some (Some b) _ _ a.k _ fits c.if-size-eq0.false (cases.at-held a.size a.align_log2 a.k a.s.now b room cut))
