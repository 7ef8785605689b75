-- `line_words::main` is safe: the bytes printed are bytes of the output, and the map's words are words. Assumes nothing.
use mathlib.Core.Path.{sym, ◌∙◌}
use lib.Seq.{length-take-le}
use Rattle.lines.proofs.Whole.{on-le, map-le}
use Rattle.line_words.proofs.main.Goals as goal

pub slice_bounds-output-end : goal.slice_bounds-output-end
slice_bounds-output-end c = on-le _ _ _ _ c.in-Ok.count _ (sym c.in-Ok.is ∙ c.play.ensures.value) c.play.ensures.output_after

pub slice_bounds-write_all-end : goal.slice_bounds-write_all-end
slice_bounds-write_all-end c =
    sym (length-take-le _ _ (on-le _ _ _ _ c.in-Ok.count _ (sym c.in-Ok.is ∙ c.play.ensures.value) c.play.ensures.output_after))

pub slice_bounds-words-end : goal.slice_bounds-words-end
slice_bounds-words-end c = map-le _ _ _ _ _ c.in-Ok.map (sym c.in-Ok.is ∙ c.play.ensures.value) c.play.ensures.words_after

pub slice_bounds-show-end : goal.slice_bounds-show-end
slice_bounds-show-end c =
    sym (length-take-le _ _ (map-le _ _ _ _ _ c.in-Ok.map (sym c.in-Ok.is ∙ c.play.ensures.value) c.play.ensures.words_after))
