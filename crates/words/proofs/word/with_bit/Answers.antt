-- `words::word::with_bit` meets its contract. One bit is set or cleared by `1 << i`. Assumes nothing.
use native.Mathlib.Omega.{arith}
use Rattle.words.proofs.Bits.{pack-lt}
use Rattle.words.proofs.Words.{shl-one, set-is, clear-is}
use Rattle.words.proofs.word.with_bit.Goals as goal

pub overflow_cast-result-then-on-2 : goal.overflow_cast-result-then-on-2
overflow_cast-result-then-on-2 c = let a = c.args in
    rw (shl-one 32 a.i (omega arith), set-is a.w a.i c.ranges.w.fits c.requires) (record { fits = pack-lt 16 _ })

pub returns-then-on : goal.returns-then-on
returns-then-on c = let a = c.args in
    rw (shl-one 32 a.i (omega arith), c.if-on.true) (set-is a.w a.i c.ranges.w.fits c.requires)

pub returns-else-on : goal.returns-else-on
returns-else-on c = let a = c.args in
    rw (shl-one 32 a.i (omega arith), c.if-on.false) (clear-is a.w a.i c.ranges.w.fits c.requires)
