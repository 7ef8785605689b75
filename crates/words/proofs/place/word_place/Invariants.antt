-- `words::place::word_place` meets its contract. The loop's invariant: the places passed and the place of the ancestor make up the word's
-- place. Assumes nothing.
use Rattle.words.proofs.Places.{Upward}
use Rattle.words.proofs.place.word_place.Given as goal

abbrev pub invariant-loop-up : goal.invariant-loop-up
invariant-loop-up l = Upward l.k l.d l.j l._up l.rest l.size l.at
