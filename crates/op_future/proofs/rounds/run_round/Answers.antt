use Rattle.std.proofs.Common.{◌∙◌, List, ap, arith, length, map, subst, sym}
use Rattle.session_script.specs.declared.round.Round.{Round}
use Rattle.lane_turns.specs.AllWorkers.{AreCuts}
use Rattle.lane_turns.specs.LaneValues.{terms}
use Rattle.lane_turns.specs.Openers.{OpenerView}
use Rattle.op_future.proofs.RoundLemmas.{is_over}
use Rattle.op_future.proofs.SeatLemmas.{got_from}
use Rattle.op_future.proofs.SessionLemmas.{one_run_workers}
use Rattle.op_future.proofs.rounds.run_round.Goals as goal

pub run_tasks-workers-requires-clause-count : goal.run_tasks-workers-requires-clause-count
run_tasks-workers-requires-clause-count g c κs within =
    c.requires.ready.rows.size
    ∙ one_run_workers g.N.LaneSession.names.script (length c.args.tasks.items) c.requires.only

pub close_round-requires-clause-cuts : goal.close_round-requires-clause-cuts
close_round-requires-clause-cuts g c =
    subst (λ o. AreCuts g.N.LaneSession.names.script o) (sym c.run_tasks-workers.ensures.opener) c.requires.cuts

pub returns-clause-over : goal.returns-clause-over
returns-clause-over g c =
    let t =
    terms g.N.LaneSession.names g.H.CompletionHandler.marks g.X.Reactor.state g.X.Reactor.told g.X.Reactor.faults
    g.N.LaneSession.faults g.N.LaneSession.clock in
    let one = ap (λ (rounds : List Round). length rounds) c.requires.only in
    let stays = ap (λ (o : OpenerView). o.stand.closings) c.run_tasks-workers.ensures.opener in
    is_over t g.N.LaneSession.names.script c.run_tasks-workers.result.0.opener c.close_round.new.workers.opener
    (omega (arith, c.requires.before.closed, one, stays)) c.close_round.result c.close_round.ensures.ended
    c.close_round.ensures.knows

pub returns-clause-got : goal.returns-clause-got
returns-clause-got g c =
    got_from g.N.LaneSession.names.script c.args.context.now c.args.workers.all c.run_tasks-workers.result.0.all
    (map g.T.Task.state c.args.tasks.items) (map g.T.Task.state c.run_tasks-workers.result.1.items)
    c.run_tasks-workers.ensures.ran c.close_round.new.workers.all c.close_round.ensures.remember
    c.run_tasks-workers.ensures.ready.rows c.close_round.ensures.ready.rows
