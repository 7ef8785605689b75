-- `line::Session::play`: the bytes printed are bytes of the output. Assumes nothing.
use mathlib.Core.Path.{sym, ◌∙◌}
use lib.Seq.{length-take-le}
use Rattle.lines.proofs.Whole.{on-le}
use Rattle.line.proofs.Session.play.Goals as goal

pub slice_bounds-write_all-end : goal.slice_bounds-write_all-end
slice_bounds-write_all-end c =
    sym (length-take-le _ _ (on-le _ _ _ _ c.in-Ok.count _ (sym c.in-Ok.is ∙ c.go_on.ensures.value) c.go_on.ensures.output_after))
