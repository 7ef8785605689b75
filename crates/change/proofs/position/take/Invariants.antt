-- `change::position::take` meets its contract. The loop climbs from the leaf word (`Taking`); it ends at the map's own word, or where the word
-- stored last did not become empty, since then no word above changes. Assumes nothing.
use Rattle.change.proofs.TakenWay.{Taking}
use Rattle.change.proofs.position.take.Given as goal

abbrev pub invariant-loop : goal.invariant-loop
invariant-loop l = Taking l.k l.fn.s l.p l.at l.counter l.rest l.size l.turn l.s
