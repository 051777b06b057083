use Rattle.std.proofs.Common.{arith}
use Rattle.lane_turns.specs.LaneValues.{terms}
use Rattle.context_tests.proofs.ClosingLemmas.{is_over}
use Rattle.context_tests.proofs.polled.close_begun.Goals as goal

pub returns-clause-over : goal.returns-clause-over
returns-clause-over g c =
    let t =
    terms g.N.LaneSession.names g.H.CompletionHandler.marks g.X.Reactor.state g.X.Reactor.told g.X.Reactor.faults
    g.N.LaneSession.faults g.N.LaneSession.clock in
    is_over t g.N.LaneSession.names.script c.args.workers.now.opener c.close_round.new.workers.opener
    (omega (arith, c.requires.begun.closed, c.requires.only)) c.close_round.result c.close_round.ensures.ended
    c.close_round.ensures.knows
