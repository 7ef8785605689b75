-- `lines::read::code_of` meets its contract, in the arm of the longest name: at its ten bytes the check's own search gives up. Assumes
-- nothing.
use Rattle.std.proofs.Common.{◌≡◌, refl, arith}
use Rattle.std.proofs.lemmas.Slice.Eq.{text_from_reads}
use Rattle.lines.specs.Text.{freerunold_text}
use Rattle.lines.specs.Line.{code_of, with_two}
use Rattle.lines.proofs.read.code_of.Goals as goal

pub returns-in-2-freerunold : goal.returns-in-2-freerunold
unfolding code_of with_two
returns-in-2-freerunold c =
    let e : c.args.text.now ≡ freerunold_text = text_from_reads c.args.text.now freerunold_text (omega arith) (omega arith, (omega arith, (omega arith, (omega arith, (omega arith, (omega arith, (omega arith, (omega arith, (omega arith, (omega arith, tt)))))))))) in
    rw (c.in-2-freerunold.is-0, e) refl
