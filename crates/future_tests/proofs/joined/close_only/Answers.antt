use Rattle.std.proofs.Common.{List, ap, arith, length}
use Rattle.session_script.specs.declared.round.Round.{Round}
use Rattle.lane_turns.specs.LaneValues.{terms}
use Rattle.op_future.proofs.RoundLemmas.{begins_first, is_over}
use Rattle.future_tests.proofs.joined.close_only.Goals as goal

pub close_round-requires-clause-round : goal.close_round-requires-clause-round
close_round-requires-clause-round g c =
    (begins_first g.N.LaneSession.names.script 2 c.args.workers.now.opener.stand c.requires.only c.requires.before).is_open

pub returns-clause-over : goal.returns-clause-over
returns-clause-over g c =
    let t =
    terms g.N.LaneSession.names g.H.CompletionHandler.marks g.X.Reactor.state g.X.Reactor.told g.X.Reactor.faults
    g.N.LaneSession.faults g.N.LaneSession.clock in
    let one = ap (λ (rounds : List Round). length rounds) c.requires.only in
    is_over t g.N.LaneSession.names.script c.args.workers.now.opener c.close_round.new.workers.opener
    (omega (arith, c.requires.before.closed, one)) c.close_round.result c.close_round.ensures.ended
    c.close_round.ensures.knows
