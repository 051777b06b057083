use Rattle.std.proofs.Common.{subst}
use Rattle.session_script.specs.Script.{ScriptModel}
use Rattle.lane_map.specs.LaneNumbers.{reactor_lane}
use Rattle.lane_turns.specs.Batons.{BatonView}
use Rattle.lane_turns.specs.Benches.{AreWorkers, IsRow}
use Rattle.lane_turns.specs.Workers.{WorkerView}
use Rattle.lane_context.proofs.SettingOutLemmas.{lanes_begin, none_begins, workers_begin}
use Rattle.lane_context.proofs.context.Context.make.Goals as goal

pub set_out-requires-clause-lanes : goal.set_out-requires-clause-lanes
set_out-requires-clause-lanes g c =
    let began = c.in-Ok-make_session.ensures.begun in
    subst (λ (script : ScriptModel).
    IsRow (λ (baton : BatonView g.row.H.Denot). baton.lane.pen.seat) 0 (reactor_lane script) c.in-Ok-make_session.begun.batons.items) c.requires.script
    (lanes_begin c.args.script.now g.N.LaneSession.clock began.listed _ _ _ _ began.begun)

pub set_out-requires-clause-workers : goal.set_out-requires-clause-workers
set_out-requires-clause-workers g c =
    let began = c.in-Ok-make_session.ensures.begun in
    subst (λ (script : ScriptModel).
    AreWorkers (λ (w : WorkerView). w.pen.seat) script c.in-Ok-make_session.begun.workers.items) c.requires.script
    (workers_begin c.args.script.now g.N.LaneSession.clock began.listed _ _ _ _ began.begun)

pub set_out-requires-clause-none_drawn : goal.set_out-requires-clause-none_drawn
set_out-requires-clause-none_drawn g c =
    let began = c.in-Ok-make_session.ensures.begun in
    none_begins c.args.script.now g.N.LaneSession.clock began.listed _ _ _ _ began.begun
