-- `bitmap::contiguous::alloc_run` meets its contract: the run that is found, and then the change of `remove`. Assumes nothing.
use Rattle.std.proofs.Common.{arith}
use Rattle.words.proofs.Levels.{cap-small}
use Rattle.bitmap.proofs.RunCases.{run-fits}
use Rattle.bitmap.proofs.contiguous.alloc_run.Goals as goal

pub overflow_add-b : goal.overflow_add-b
overflow_add-b c =
    let a = c.args in
    let fits = run-fits a.base a.size a.align_log2 a.k a.s.now c.in_ok-b.b c.in_ok-b.ensures in
    omega (arith, fits, cap-small a.k c.requires.0)

pub for_range-requires : goal.for_range-requires
for_range-requires c =
    let a = c.args in
    let fits = run-fits a.base a.size a.align_log2 a.k a.s.now c.in_ok-b.b c.in_ok-b.ensures in
    (c.requires.0, c.requires.1, omega (arith, fits.0), fits.1)
