-- What lanes, workers and the opener are before the first event of a session, this project's own.
use Rattle.std.specs.Prelude.{◌≡◌, ℕ, ◌+◌, ◌≤◌, List, [], true, false, None, Option, Some, slice_get}
use Rattle.session_script.specs.Script.{ScriptModel}
use Rattle.history_rules.specs.State.{first_reactor}
use Rattle.reactor_trait.specs.Reactor.{Outside, ReactorState, state_ready}
use Rattle.proactor_core.specs.Proactor.{Follows, IsSound, ProactorView, tells}
use Rattle.strand_core.specs.Hands.{Held}
use Rattle.reactor_turns.specs.Ahead.{most_turn_events}
use Rattle.lane_clock.specs.Seats.{ClockId}
use Rattle.lane_clock.specs.Steps.{most_draws}
use Rattle.lane_logs.specs.Names.{SessionNames}
use Rattle.lane_logs.specs.Stand.{base_at, first_stand}
use Rattle.lane_logs.specs.SeatNumbers.{lane_count}
use Rattle.lane_turns.specs.Batons.{BatonView, LaneView}
use Rattle.lane_turns.specs.Openers.{OpenerView, is_running_at, round_of}
use Rattle.lane_turns.specs.Pens.{PenView}
use Rattle.lane_turns.specs.Rooms.{IsNewPen, lane_room, opener_room, worker_room}
use Rattle.lane_turns.specs.Workers.{WorkerView}

-- a lane that has executed nothing, where the rounds stand as before the first event
abbrev pub first_lane : ScriptModel → ℕ → PenView → LaneView
first_lane script lane pen = record {
  lane = lane;
  pen = pen;
  place = 0;
  base = base_at script (first_stand script);
  running = is_running_at script (first_stand script);
  missed = None;
}

-- a worker that has stopped nothing
abbrev pub first_worker : ScriptModel → PenView → WorkerView
first_worker script pen = record {
  pen = pen;
  round = round_of script (first_stand script);
  drew = false;
  stopped = false;
  in_step = true;
}

-- an opener that has drawn nothing
abbrev pub first_opener : ScriptModel → PenView → OpenerView
first_opener script pen = record { pen = pen; stand = first_stand script }

-- a seat may draw as often as its log has room for
pub record RoomsFit (script : ScriptModel) : Type 0 where
  pub lanes : (lane : ℕ) → lane_room script lane ≤ most_draws
  pub reactor : most_turn_events script ≤ most_draws
  pub workers : worker_room script ≤ most_draws
  pub opener : opener_room script ≤ most_draws

-- a proactor that has taken nothing, over a reactor that is set up and failed as often as is named
pub record IsStarted {X : Type 0} (names : SessionNames) (state : X → ReactorState)
    (told : X → Option Outside) (faults : X → ℕ) (named : ℕ) (view : ProactorView X) : Type 0 where
  pub same_script : view.script ≡ names.script
  pub sound : IsSound state told view
  pub nothing_due : view.tables.due.coming ≡ []
  pub working : view.tables.failed ≡ false
  pub same_tells : tells (told view.reactor) ≡ names.told
  pub follows : Follows told view (first_reactor names.script names.told)
  pub ready : state view.reactor ≡ state_ready names.script.world
  pub counted : faults view.reactor ≡ named

-- a lane that has executed nothing, with the handlers that are listed at its number
pub record IsFirstBaton {H : Type 0} (script : ScriptModel) (clock : ClockId) (listed : List (Held H))
    (lane : ℕ) (baton : BatonView H) : Type 0 where
  pub pen : IsNewPen clock lane (lane_room script lane) baton.lane.pen
  pub is : baton.lane ≡ first_lane script lane baton.lane.pen
  pub hands : slice_get listed lane ≡ Some baton.hands

-- a worker that has stopped nothing, by its place among the workers
pub record IsFirstWorker (script : ScriptModel) (clock : ClockId) (k : ℕ) (worker : WorkerView)
    : Type 0 where
  pub pen : IsNewPen clock (lane_count script + k) (worker_room script) worker.pen
  pub is : worker ≡ first_worker script worker.pen
