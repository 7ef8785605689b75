-- `lines::go_on` meets its contract. Assumes nothing.
use Rattle.std.proofs.Common.{arith}
use Rattle.words.specs.Sizes.{words}
use Rattle.lines.proofs.Whole.{went}
use Rattle.lines.proofs.go_on.Goals as goal

pub returns : goal.returns
unfolding words
returns c =
    let a = c.args in
    let e = went a.input.now a.words.now a.map a.output.now c.if-words-lt-WORDS.false c.if-words-map.false (omega (arith, c.if-output-input.false)) c.session-s.ensures in
    record { value = e.0; words_after = e.1.0; output_after = e.1.1 }
