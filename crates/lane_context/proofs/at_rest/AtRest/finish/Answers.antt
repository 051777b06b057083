use Rattle.std.proofs.Common.{length, subst}
use Rattle.lane_clock.specs.Seats.{Remembers, own}
use Rattle.lane_logs.specs.AtRest.{IsAtRest}
use Rattle.lane_logs.specs.Knowing.{lists_of}
use Rattle.lane_logs.specs.SeatNumbers.{opener_seat}
use Rattle.lane_turns.specs.AtRest.{RestView}
use Rattle.lane_context.proofs.RestLemmas.{rest_on}
use Rattle.lane_context.proofs.at_rest.AtRest.finish.Goals as goal

pub returns-clause-rest : goal.returns-clause-rest
returns-clause-rest g c =
    let script = g.N.LaneSession.names.script in
    subst (λ (view : RestView). IsAtRest script (lists_of c.finish.result.0.known) view.since) c.self.view_is
    (rest_on script (lists_of c.self.inside.ending.opener.pen.seat) (lists_of c.finish.result.0.known)
    (length (own c.self.inside.rested)) c.self.invariant.made (c.finish.ensures.remembers (opener_seat script))
    c.finish.ensures.all c.finish.ensures.resting c.self.invariant.rests)

pub returns-clause-remembers : goal.returns-clause-remembers
returns-clause-remembers g c =
    subst (λ (view : RestView). Remembers view.known c.finish.result.0.known) c.self.view_is c.finish.ensures.remembers
