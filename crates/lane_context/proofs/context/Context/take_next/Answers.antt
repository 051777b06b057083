use Rattle.std.proofs.Common.{◌∙◌}
use Rattle.lane_turns.specs.LaneValues.{terms}
use Rattle.lane_context.proofs.GatheringLemmas.{number_is_home}
use Rattle.lane_context.proofs.context.Context.take_next.Goals as goal

pub returns-clause-value : goal.returns-clause-value
returns-clause-value g c =
    let t =
    terms g.N.LaneSession.names g.H.CompletionHandler.marks g.X.Reactor.state g.X.Reactor.told g.X.Reactor.faults
    g.N.LaneSession.faults g.N.LaneSession.clock in
    number_is_home t c.in-Some.value c.is_one.ensures ∙ c.in-Some.ensures.home
