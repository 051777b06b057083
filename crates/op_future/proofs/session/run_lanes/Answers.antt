use Rattle.std.proofs.Common.{◌≡◌, ◌∙◌, List, ap, arith, length, map, subst, sym}
use Rattle.session_script.specs.Script.{ScriptModel}
use Rattle.session_script.specs.WellFormed.{IsWellFormed}
use Rattle.lane_logs.specs.KeptLogs.{logs_in}
use Rattle.lane_logs.specs.Names.{SessionNames}
use Rattle.lane_logs.specs.SeatNumbers.{opener_seat}
use Rattle.lane_turns.specs.Attempts.{WorkerState}
use Rattle.lane_turns.specs.Finishing.{KeepLogsOf}
use Rattle.lane_turns.specs.KeptSteps.{KeepStepsOf}
use Rattle.lane_turns.specs.Workers.{WorkerView}
use Rattle.lane_turns.proofs.AllWorkersLemmas.{images_size}
use Rattle.lane_turns.proofs.ContextEndLemmas.{kept_of}
use Rattle.lane_turns.proofs.KeptStepsLemmas.{steps_of}
use Rattle.session_run.proofs.LaneWorkerLemmas.{none_stopped}
use Rattle.session_run.proofs.MergedLemmas.{finished, holds_named, let_go_is}
use Rattle.op_future.specs.Gathering.{AreEndsBy}
use Rattle.op_future.proofs.EndLemmas.{are_ends}
use Rattle.op_future.proofs.HaveGotLemmas.{have_got}
use Rattle.op_future.proofs.SessionLemmas.{absent_at_rest, one_run_workers, session_got}
use Rattle.op_future.proofs.session.run_lanes.Goals as goal

pub make-made-requires-clause-marks : goal.make-made-requires-clause-marks
make-made-requires-clause-marks g c =
    holds_named g.H.CompletionHandler.marks g.N.LaneSession.names c.args.script.now _ c.args.rack.now c.requires.names
    c.requires.whole (omega (arith, c.acts.ensures.count, c.acts.ensures.limit, c.requires.count))

pub returns-clause-finished : goal.returns-clause-finished
returns-clause-finished g c =
    let script = g.N.LaneSession.names.script in
    let logs = logs_in c.finish-logs.result.0 in
    let workers = c.run_round-workers.result.0 in
    let left : KeepLogsOf (λ (w : WorkerView). w.pen.log) script logs (map (λ (w : WorkerState g.row.H.Denot g.row.X.Denot). w.seat) workers.all) =
    subst (λ (ws : List WorkerView). KeepLogsOf (λ (w : WorkerView). w.pen.log) script logs ws)
    (c.gather_all-tasks.ensures.stays.workers ∙ c.rest-rest.ensures.workers) c.finish-logs.ensures.worker_logs in
    finished g.N.LaneSession.names logs c.merge-history.result.events c.merge-history.ensures.legal
    (none_stopped script logs c.in-Ok-made.made.1.all workers.all c.in-Ok-made.ensures.free
    (c.run_round-workers.ensures.logs ∙ c.opening.ensures.logs) c.run_round-workers.ensures.ready.rows.size
    (kept_of (λ (w : WorkerState g.row.H.Denot g.row.X.Denot). w.seat) (λ (w : WorkerView). w.pen.log) script logs workers.all left))
    g.N.LaneSession.faults (g.X.Reactor.faults c.finish-logs.result.1) (g.X.Reactor.state c.finish-logs.result.1)
    (g.X.Reactor.told c.finish-logs.result.1) c.finish-logs.ensures.reactor

pub returns-clause-got : goal.returns-clause-got
returns-clause-got g c =
    let script = g.N.LaneSession.names.script in
    let logs = logs_in c.finish-logs.result.0 in
    let workers = c.run_round-workers.result.0 in
    let well : IsWellFormed script =
    subst IsWellFormed (sym (ap (λ (n : SessionNames). n.script) c.requires.names)) c.scripts_are_well_formed.ensures in
    let kept : KeepStepsOf (λ (w : WorkerView). w.pen.seat) script logs (map (λ (w : WorkerState g.row.H.Denot g.row.X.Denot). w.seat) workers.all) =
    subst (λ (ws : List WorkerView). KeepStepsOf (λ (w : WorkerView). w.pen.seat) script logs ws)
    (c.gather_all-tasks.ensures.stays.workers ∙ c.rest-rest.ensures.workers) c.finish-logs.ensures.worker_steps in
    let same : script ≡ c.args.script.now = ap (λ (n : SessionNames). n.script) c.requires.names in
    let count =
    one_run_workers script (length c.args.tasks.items)
    (ap (λ (s : ScriptModel). s.rounds) same ∙ c.requires.round) in
    let rows = c.run_round-workers.ensures.ready.rows.size in
    let size = images_size g.T.Task.state c.args.tasks.items in
    let holds =
    c.receipts_hold.ensures g.N.LaneSession.names logs c.merge-history.result.events well c.finish-logs.ensures.logs
    c.merge-history.ensures.merging in
    have_got script logs c.merge-history.result.events (map g.T.Task.state c.args.tasks.items)
    (map g.T.Task.state c.gather_all-tasks.result.tasks.items)
    (c.gather_all-tasks.ensures.gathered.size ∙ c.run_round-workers.ensures.got.size)
    (session_got script logs workers.all c.gather_all-tasks.new.rest (map g.T.Task.state c.args.tasks.items)
    (map g.T.Task.state c.run_round-workers.result.1.items) (map g.T.Task.state c.gather_all-tasks.result.tasks.items)
    c.gather_all-tasks.result.ends.items c.run_round-workers.ensures.got c.gather_all-tasks.ensures.gathered
    (steps_of (λ (w : WorkerState g.row.H.Denot g.row.X.Denot). w.seat) (λ (w : WorkerView). w.pen.seat) script logs workers.all kept)
    (c.finish-logs.ensures.remembers (opener_seat script)) (omega (arith, size, rows, count)))
    holds

pub returns-clause-ended : goal.returns-clause-ended
returns-clause-ended g c =
    let script = g.N.LaneSession.names.script in
    let logs = logs_in c.finish-logs.result.0 in
    let well : IsWellFormed script =
    subst IsWellFormed (sym (ap (λ (n : SessionNames). n.script) c.requires.names)) c.scripts_are_well_formed.ensures in
    let by =
    subst (λ found. AreEndsBy c.merge-history.result.events found c.ends_by-ends.result.items) c.as_slice.ensures.value
    c.ends_by-ends.ensures in
    are_ends script c.merge-history.result.events c.gather_all-tasks.new.rest
    (map g.T.Task.state c.run_round-workers.result.1.items) (map g.T.Task.state c.gather_all-tasks.result.tasks.items)
    c.gather_all-tasks.result.ends.items c.ends_by-ends.result.items c.gather_all-tasks.ensures.gathered by
    (absent_at_rest c.unfound_at_rest_are_absent.ensures g.N.LaneSession.names logs c.merge-history.result.events
    c.gather_all-tasks.new.rest well c.finish-logs.ensures.logs c.merge-history.ensures.merging c.finish-logs.ensures.rest
    (c.finish-logs.ensures.remembers (opener_seat script)))

pub returns-clause-let_go : goal.returns-clause-let_go
returns-clause-let_go g c =
    c.let_go-let_go.ensures
    ∙ let_go_is g.N.LaneSession.names c.finish-logs.result.0 c.merge-history.result.events c.merge-history.ensures.legal
    c.finish-logs.ensures.let_go

pub returns-clause-few : goal.returns-clause-few
returns-clause-few g c = omega (arith, c.let_go-let_go.ensures, c.finish-logs.ensures.let_go.few)
