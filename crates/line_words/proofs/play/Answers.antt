-- `line_words::play` meets its contract: the part that it plays is what the line program reads of the script. Assumes nothing.
use Rattle.std.proofs.Common.{◌≡◌, ◌∙◌}
use mathlib.Core.Path.{ap}
use lib.ListN.{take}
use Rattle.lines.specs.Session.{cut, went_on, words_on, output_on}
use Rattle.lines.proofs.Whole.{take-min}
use Rattle.line_words.proofs.play.Goals as goal

pub returns : goal.returns
returns c =
    let a = c.args in
    let d = c.go_on.ensures in
    let read : take c.min-n.result a.script.now ≡ cut a.script.now = ap (λ k. take k a.script.now) c.min-n.ensures ∙ take-min _ a.script.now in
    record {
      value = d.value ∙ ap (λ s. went_on s a.words.now 0 a.output.now) read;
      words_after = d.words_after ∙ ap (λ s. words_on s a.words.now 0 a.output.now) read;
      output_after = d.output_after ∙ ap (λ s. output_on s a.words.now 0 a.output.now) read;
    }
