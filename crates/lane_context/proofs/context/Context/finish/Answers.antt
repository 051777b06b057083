use Rattle.std.proofs.Common.{List, subst}
use Rattle.lane_clock.proofs.KeepLemmas.{start_trans}
use Rattle.lane_logs.specs.KeptLogs.{logs_in}
use Rattle.lane_turns.specs.Attempts.{WorkerState}
use Rattle.lane_turns.specs.Finishing.{KeepLogsOf}
use Rattle.lane_turns.specs.KeptSteps.{KeepStepsOf}
use Rattle.lane_turns.specs.Workers.{WorkerView}
use Rattle.lane_turns.proofs.ContextEndLemmas.{kept_of}
use Rattle.lane_turns.proofs.KeptStepsLemmas.{steps_of}
use Rattle.lane_context.proofs.context.Context.finish.Goals as goal

pub returns-clause-worker_logs : goal.returns-clause-worker_logs
returns-clause-worker_logs g c =
    kept_of (λ (w : WorkerState g.row.H.Denot g.row.X.Denot). w.seat) (λ (w : WorkerView). w.pen.log)
    g.N.LaneSession.names.script (logs_in c.finish.result.0) c.args.workers.all
    (subst (λ (ws : List WorkerView).
    KeepLogsOf (λ (w : WorkerView). w.pen.log) g.N.LaneSession.names.script (logs_in c.finish.result.0) ws)
    c.rest.ensures.workers c.finish.ensures.worker_logs)

pub returns-clause-worker_steps : goal.returns-clause-worker_steps
returns-clause-worker_steps g c =
    steps_of (λ (w : WorkerState g.row.H.Denot g.row.X.Denot). w.seat) (λ (w : WorkerView). w.pen.seat)
    g.N.LaneSession.names.script (logs_in c.finish.result.0) c.args.workers.all
    (subst (λ (ws : List WorkerView).
    KeepStepsOf (λ (w : WorkerView). w.pen.seat) g.N.LaneSession.names.script (logs_in c.finish.result.0) ws)
    c.rest.ensures.workers c.finish.ensures.worker_steps)

pub returns-clause-remembers : goal.returns-clause-remembers
returns-clause-remembers g c n = start_trans _ _ _ (c.rest.ensures.remembers n) (c.finish.ensures.remembers n)
