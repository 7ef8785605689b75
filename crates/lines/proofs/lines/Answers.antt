-- `lines::lines` meets its contract: the part that is read answers for the whole. Assumes nothing.
use Rattle.std.proofs.Common.{◌≡◌, ◌∙◌, rules, tests}
use Rattle.lines.specs.Session.{says}
use Rattle.lines.proofs.Whole.{counts, whole}
use Rattle.lines.proofs.lines.Goals as goal

pub returns : goal.returns
returns c =
    let d = c.go_on.ensures in
    let e = whole _ _ _ c.min-n.result c.min-n.ensures (d.value, (d.words_after, d.output_after)) in
    let same : says c.map.result ≡ counts c.go_on.result = search (rules, tests) in
    record { result_value = same ∙ e.0; words_after = e.1.0; output_after = e.1.1 }
