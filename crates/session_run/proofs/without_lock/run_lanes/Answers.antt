use Rattle.std.proofs.Common.{◌∙◌, arith}
use Rattle.lane_logs.specs.KeptLogs.{logs_in}
use Rattle.session_run.proofs.LaneWorkerLemmas.{fresh_unfaulted, none_faulted, none_stopped}
use Rattle.session_run.proofs.MergedLemmas.{finished, holds_named, let_go_is}
use Rattle.session_run.proofs.without_lock.run_lanes.Goals as goal

pub make-made-requires-clause-marks : goal.make-made-requires-clause-marks
make-made-requires-clause-marks g c =
    holds_named g.H.CompletionHandler.marks g.N.LaneSession.names c.args.script.now _ c.args.rack.now c.requires.names
    c.requires.whole (omega (arith, c.acts.ensures.count, c.acts.ensures.limit, c.requires.count))

pub run_lane_rounds-requires-clause-none : goal.run_lane_rounds-requires-clause-none
run_lane_rounds-requires-clause-none g c κs within =
    none_faulted c.in-Ok.made.1.all c.opening.new.workers.all c.opening.ensures.lasts
    (fresh_unfaulted c.in-Ok.made.1.all c.in-Ok.ensures.free)

pub returns-clause-ended : goal.returns-clause-ended
returns-clause-ended g c =
    let logs = logs_in c.finish-logs.result.0 in
    finished g.N.LaneSession.names logs c.merge.result.events c.merge.ensures.legal
    (none_stopped g.N.LaneSession.names.script logs c.in-Ok.made.1.all c.run_lane_rounds.new.workers.all c.in-Ok.ensures.free
    (c.run_lane_rounds.ensures.logs ∙ c.opening.ensures.logs) c.run_lane_rounds.ensures.ready.rows.size
    c.finish-logs.ensures.worker_logs)
    g.N.LaneSession.faults (g.X.Reactor.faults c.finish-logs.result.1) (g.X.Reactor.state c.finish-logs.result.1)
    (g.X.Reactor.told c.finish-logs.result.1) c.finish-logs.ensures.reactor

pub returns-clause-let_go : goal.returns-clause-let_go
returns-clause-let_go g c =
    c.let_go-let_go.ensures
    ∙ let_go_is g.N.LaneSession.names c.finish-logs.result.0 c.merge.result.events c.merge.ensures.legal
    c.finish-logs.ensures.let_go

pub returns-clause-few : goal.returns-clause-few
returns-clause-few g c = omega (arith, c.let_go-let_go.ensures, c.finish-logs.ensures.let_go.few)
