use Rattle.lane_turns.proofs.DuesLemmas.{TellsOn}
use Rattle.lane_turns.proofs.telling.tell_all.Given as goal

abbrev pub invariant-loop : goal.invariant-loop
invariant-loop g l =
    TellsOn g.N.LaneSession.names g.X.Reactor.state g.X.Reactor.told l.fn.pen l.pen l.fn.proactor l.proactor

abbrev pub decreases-loop : goal.decreases-loop
decreases-loop g l = l.pen.room
