-- `lines_tour::part` is safe: the bytes printed are bytes of the output. Assumes nothing.
use mathlib.Core.Path.{sym, ◌∙◌}
use lib.Seq.{length-take-le}
use Rattle.lines.proofs.Whole.{on-le}
use Rattle.lines_tour.proofs.part.Goals as goal

pub slice_bounds-output-end : goal.slice_bounds-output-end
slice_bounds-output-end g c = on-le _ _ _ _ c.in-Ok.count _ (sym c.in-Ok.is ∙ c.go_on.ensures.value) c.go_on.ensures.output_after

pub slice_bounds-write_all-end : goal.slice_bounds-write_all-end
slice_bounds-write_all-end g c =
    sym (length-take-le _ _ (on-le _ _ _ _ c.in-Ok.count _ (sym c.in-Ok.is ∙ c.go_on.ensures.value) c.go_on.ensures.output_after))
