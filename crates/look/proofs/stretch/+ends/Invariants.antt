-- The cycle of calls {end_in_word, end_in_below}. A word of level k asks the table at k - 1, and the table the word at the same level: the
-- measure is 2 k for a word, and 2 k + 1 for the table. Assumes nothing.
use Rattle.std.proofs.Common.{◌+◌, ◌*◌}
use Rattle.look.proofs.stretch.+ends.Given as goal

abbrev pub decreases-end_in_word : goal.decreases-end_in_word
decreases-end_in_word l = 2 * l.k

abbrev pub decreases-end_in_below : goal.decreases-end_in_below
decreases-end_in_below l = 2 * l.k + 1
