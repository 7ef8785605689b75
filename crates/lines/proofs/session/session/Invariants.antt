-- `lines::session::session` meets its contract: what is left of the session is the whole of it. Assumes nothing.
use lib.ListN.{length}
use Rattle.lines.proofs.Sessions.{Upto}
use Rattle.lines.proofs.session.session.Given as goal

abbrev pub invariant-loop-rest : goal.invariant-loop-rest
invariant-loop-rest l = Upto l.input l.initial.words l.map l.initial.out l.words l.out l.rest l.s.n l.s.at

abbrev pub decreases-loop-rest : goal.decreases-loop-rest
decreases-loop-rest l = length l.rest
