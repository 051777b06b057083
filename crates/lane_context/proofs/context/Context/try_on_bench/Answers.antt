use Rattle.lane_turns.specs.LaneValues.{terms}
use Rattle.lane_turns.proofs.MeetAllLemmas.{failure_on}
use Rattle.lane_context.proofs.context.Context.try_on_bench.Goals as goal

pub returns-then-hear_failure-clause-tried : goal.returns-then-hear_failure-clause-tried
returns-then-hear_failure-clause-tried g c =
    let t =
    terms g.N.LaneSession.names g.H.CompletionHandler.marks g.X.Reactor.state g.X.Reactor.told g.X.Reactor.faults
    g.N.LaneSession.faults g.N.LaneSession.clock in
    failure_on t c.args.opener.now c.hear_failure.new.opener c.meet_all.new.opener
    (c.hear_failure.ensures.failed c.if-hear_failure.true) c.meet_all.ensures.on

pub returns-then-hear_failure-clause-met : goal.returns-then-hear_failure-clause-met
returns-then-hear_failure-clause-met g c = λ failed.
    c.meet_all.ensures.opener_knew (c.hear_failure.ensures.failed c.if-hear_failure.true).knows
