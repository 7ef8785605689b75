-- The proof of the cycle of calls {range::for_range}. The measure is the level. A change is that of one child, or of the two border
-- children with a fill between them, by the laws of `Borders`. Assumes nothing.
use Rattle.change.proofs.range.+for_range.Given as goal

abbrev pub decreases-for_range : goal.decreases-for_range
decreases-for_range l = l.k
