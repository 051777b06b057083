-- A session of tasks: each worker of its one round executes handlers and looks for what its task wants
-- (Asio reference, io_context::run; that tasks are polled by hand is this project's own).
use Rattle.std.specs.Prelude.{◌≡◌, ◌≢◌, ℕ, ◌<◌, true, false, List, [], ◌∷◌, Some, Contains, length, slice_get}
use Rattle.asio_types.specs.declared.event.Event.{Event}
use Rattle.asio_types.specs.declared.event.Event.TheVariants as event
use Rattle.session_script.specs.Script.{ScriptModel}
use Rattle.session_script.specs.declared.round.Pace.TheVariants as pace
use Rattle.session_script.specs.declared.round.Round.{Round}
use Rattle.lane_map.specs.LaneNumbers.{has_cell}
use Rattle.lane_logs.specs.declared.receipt.Receipt.{Receipt}
use Rattle.history_merge.specs.Receipts.{AreOfOneLane, CompletesBefore, HoldsIn, IsAbsent}
use Rattle.op_future.specs.declared.task_end.TaskEnd.{TaskEnd}
use Rattle.op_future.specs.declared.task_end.TaskEnd.TheVariants as end
use Rattle.op_future.specs.Tasks.{HasGotThese, TaskState}

-- a round in which so many workers call `run`, without a restart
abbrev pub run_round : ℕ → Round
run_round count = record { restart = false; pace = pace.Run; workers = count }

-- it is the only one of the script
abbrev pub HasOneRun : ScriptModel → ℕ → Type 0
HasOneRun script count = script.rounds ≡ run_round count ∷ []

-- how a task ends that wants what isn't in the history: by a failure of the reactor, or else by the end of
-- the work, or else by a stop
abbrev pub IsUnfoundEnd : List Event → TaskEnd → Type 0
IsUnfoundEnd events end.Fault = Contains events event.Fault
IsUnfoundEnd events end.Ended = (Contains events event.Fault → ⊥) × Contains events event.Ended
IsUnfoundEnd events end.Stopped =
    (Contains events event.Fault → ⊥) × (Contains events event.Ended → ⊥)
IsUnfoundEnd events end.Done = ⊥
IsUnfoundEnd events (end.Unfit op) = ⊥

module _ (script : ScriptModel) (events : List Event) where
  -- receipts of two operations, which completed in the order of their places
  pub record AreInOrder (one other : Receipt) : Type 0 where
    pub apart : one.place ≢ other.place
    pub order : one.place < other.place → CompletesBefore events one other

  -- what the tasks got in the session holds in its history, and it completed in the order of places
  pub record HaveGot (olds news : List TaskState) : Type 0 where
    pub size : length news ≡ length olds
    -- what each got
    pub more : ℕ → List Receipt
    pub each : (k : ℕ) (old new : TaskState) → slice_get olds k ≡ Some old →
        slice_get news k ≡ Some new → HasGotThese (more k) old new
    pub hold : (k : ℕ) (receipt : Receipt) → k < length olds → Contains (more k) receipt →
        HoldsIn script events receipt
    pub order : (k j : ℕ) (one other : Receipt) → k < length olds → j < length olds →
        Contains (more k) one → Contains (more j) other → AreOfOneLane script one other →
        AreInOrder one other

  -- it wants an operation of the script that doesn't execute inside its call, and that didn't
  -- complete, or if it is a posting wasn't called
  pub record WantsAbsent (task : TaskState) : Type 0 where
    pub op : ℕ
    pub wants : task.wanted ≡ Some op
    pub fits : has_cell script op ≡ true
    pub absent : IsAbsent script events op

  -- whether a task that comes out of the session so ends so
  abbrev pub IsEndOf : TaskState → TaskEnd → Type 0
  IsEndOf task end.Done = task.left ≡ 0
  IsEndOf task (end.Unfit op) = (task.wanted ≡ Some op) × (has_cell script op ≡ false)
  IsEndOf task end.Ended = WantsAbsent task × IsUnfoundEnd events end.Ended
  IsEndOf task end.Stopped = WantsAbsent task × IsUnfoundEnd events end.Stopped
  IsEndOf task end.Fault = WantsAbsent task × IsUnfoundEnd events end.Fault

  -- the tasks end so, in their order
  pub record AreEndsOf (tasks : List TaskState) (ends : List TaskEnd) : Type 0 where
    pub count : length ends ≡ length tasks
    pub each : (k : ℕ) (task : TaskState) (now : TaskEnd) → slice_get tasks k ≡ Some task →
        slice_get ends k ≡ Some now → IsEndOf task now
