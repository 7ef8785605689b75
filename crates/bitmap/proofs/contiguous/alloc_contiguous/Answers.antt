-- `bitmap::contiguous::alloc_contiguous` meets its contract: a run of one anywhere is a single take. Assumes nothing.
use Rattle.std.proofs.Common.{◌∙◌}
use Rattle.bitmap.proofs.RunOfOne.{nowhere, one-found, one-after}
use Rattle.bitmap.proofs.contiguous.alloc_contiguous.Goals as goal

pub returns-in-Ok : goal.returns-in-Ok
returns-in-Ok c =
    let a = c.args in
    let one = c.in-Ok.ensures in
    rw (nowhere a.base c.if-is_none.ensures, c.if-size-eq1.true, c.if-align_log2-eq0.true)
    record {
      result_value = one-found a.k a.s.now _ one.result_value;
      s_after = one.s_after ∙ one-after a.k a.s.now _ one.result_value;
    }
