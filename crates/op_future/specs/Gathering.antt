-- What tasks get of a context at rest, where what is found is final (Asio reference,
-- io_context::~io_context; that tasks are polled by hand is this project's own).
use Rattle.std.specs.Prelude.{◌≡◌, ℕ, true, List, Option, Some, None, length, map, slice_get}
use Rattle.std.specs.Option.{unwrap_or}
use Rattle.asio_types.specs.declared.event.Event.{Event}
use Rattle.session_script.specs.Script.{ScriptModel}
use Rattle.lane_clock.specs.Knowledge.{StartOf}
use Rattle.lane_map.specs.LaneNumbers.{has_cell}
use Rattle.lane_logs.specs.AtRest.{FoundNoneFrom}
use Rattle.lane_logs.specs.SeatNumbers.{opener_seat}
use Rattle.lane_turns.specs.AtRest.{RestView, rest_lists}
use Rattle.op_future.specs.declared.task_end.TaskEnd.{TaskEnd}
use Rattle.op_future.specs.Sessions.{IsUnfoundEnd}
use Rattle.op_future.specs.Steps.{HasGotFrom, IsOver}
use Rattle.op_future.specs.Tasks.{TaskState}

module _ (script : ScriptModel) where
  -- more was looked at
  pub record RestsOn (old new : RestView) : Type 0 where
    pub more : StartOf (rest_lists old (opener_seat script)) (rest_lists new (opener_seat script))
    pub workers : new.workers ≡ old.workers
    pub since : new.since ≡ old.since

  -- a task was handed receipts that were found there
  abbrev pub HasGotAtRest : RestView → TaskState → TaskState → Type 0
  HasGotAtRest rest old new = HasGotFrom script (rest_lists rest (opener_seat script)) old new

  -- it wants an operation of the script that doesn't execute inside its call, of which no receipt was
  -- found
  pub record WantsUnfound (rest : RestView) (task : TaskState) : Type 0 where
    pub op : ℕ
    pub wants : task.wanted ≡ Some op
    pub fits : has_cell script op ≡ true
    pub none : FoundNoneFrom script (rest_lists rest) rest.since op

  -- how it ends, unless it wants such a one
  abbrev pub EndsAtRest : RestView → Option TaskEnd → TaskState → Type 0
  EndsAtRest rest (Some now) task = IsOver script now task
  EndsAtRest rest None task = WantsUnfound rest task

  -- tasks were handed what is found of what they want, and end so
  pub record AreGathered (rest : RestView) (tasks tasks_now : List TaskState) (ends : List (Option TaskEnd))
      : Type 0 where
    pub size : length tasks_now ≡ length tasks
    pub count : length ends ≡ length tasks
    pub got : (k : ℕ) (old new : TaskState) → slice_get tasks k ≡ Some old →
        slice_get tasks_now k ≡ Some new → HasGotAtRest rest old new
    pub ended : (k : ℕ) (now : Option TaskEnd) (task : TaskState) → slice_get ends k ≡ Some now →
        slice_get tasks_now k ≡ Some task → EndsAtRest rest now task

-- the ends that are known, and of the others that by the history
pub record AreEndsBy (events : List Event) (found : List (Option TaskEnd)) (ends : List TaskEnd)
    : Type 0 where
  pub unfound : TaskEnd
  pub by_history : IsUnfoundEnd events unfound
  pub each : ends ≡ map (λ now. unwrap_or now unfound) found
