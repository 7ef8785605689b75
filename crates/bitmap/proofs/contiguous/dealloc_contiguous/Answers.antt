-- `bitmap::contiguous::dealloc_contiguous` meets its contract, one way or the other: a range that is not refused ends at the sum, and what
-- the give-back met decides. Assumes nothing.
use Rattle.std.proofs.Common.{arith, rules}
use Rattle.bitmap.proofs.GiveRuns.{end-refused, end-free, end-whole}
use Rattle.bitmap.proofs.contiguous.dealloc_contiguous.Goals as goal

pub returns-in_err-ranged : goal.returns-in_err-ranged
returns-in_err-ranged c =
    let a = c.args in
    let no = end-refused a.k a.base a.size _ a.s.now a.way c.requires.0 c.run_end-end.ensures (omega arith) c.in_err-ranged.ensures in
    record { result_value = search rules; s_after = no.1 }

pub returns-then-not-give_back : goal.returns-then-not-give_back
returns-then-not-give_back c =
    let a = c.args in
    let both = end-free a.k a.base a.size _ a.s.now a.way c.requires.0 c.run_end-end.ensures (omega arith) c.in_ok-ranged.ensures c.give_back.ensures.s_after c.if-not-give_back.ensures.value in
    record { result_value = both.0; s_after = both.1 }

pub returns : goal.returns
returns c =
    let a = c.args in
    let both = end-whole a.k a.base a.size _ a.s.now a.way c.requires.0 c.run_end-end.ensures (omega arith) c.in_ok-ranged.ensures c.give_back.ensures.s_after c.if-not-give_back.ensures.value in
    record { result_value = both.0; s_after = both.1 }
