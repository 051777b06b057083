-- What a step of a task comes to: receipts that its worker found, and why it ends or goes on (Asio
-- reference, io_context::poll_one; "Requirements on asynchronous operations").
use Rattle.std.specs.Prelude.{◌≡◌, ◌≢◌, ℕ, true, false, List, [], ◌∷◌, Some, None}
use Rattle.session_script.specs.Script.{ScriptModel}
use Rattle.lane_clock.specs.declared.found.Found.{Found}
use Rattle.lane_clock.specs.declared.step.ClockStep.{ClockStep}
use Rattle.lane_clock.specs.Seats.{own}
use Rattle.lane_map.specs.LaneNumbers.{has_cell}
use Rattle.lane_logs.specs.declared.receipt.Receipt.{Receipt}
use Rattle.lane_logs.specs.Receipts.{IsReceiptOf}
use Rattle.lane_turns.specs.declared.one.One.{One}
use Rattle.lane_turns.specs.declared.one.One.TheVariants as one
use Rattle.lane_turns.specs.Attempts.{WorkerState}
use Rattle.lane_turns.specs.LaneValues.{Tries}
use Rattle.lane_turns.specs.Receipts.{Finds}
use Rattle.lane_turns.specs.Runs.{HasPolled}
use Rattle.lane_turns.specs.Scanning.{GoesOn, HasLooked}
use Rattle.op_future.specs.declared.task_end.TaskEnd.{TaskEnd}
use Rattle.op_future.specs.declared.task_end.TaskEnd.TheVariants as end
use Rattle.op_future.specs.Tasks.{HasGotThese, TaskState}

-- a task, and the worker that looks for what it wants
pub record Party (H X : Type 0) : Type 0 where
  pub worker : WorkerState H X
  pub task : TaskState

abbrev pub party : {H X : Type 0} → WorkerState H X → TaskState → Party H X
party worker task = record { worker = worker; task = task }

-- each was found by whoever made these steps
abbrev pub AreReceiptsOf : ScriptModel → List ClockStep → List Receipt → Type 0
AreReceiptsOf script steps [] = Unit {0}
AreReceiptsOf script steps (receipt ∷ receipts) =
    IsReceiptOf script steps receipt × AreReceiptsOf script steps receipts

-- a task was handed receipts that whoever made these steps found
pub record HasGotFrom (script : ScriptModel) (steps : List ClockStep) (old new : TaskState) : Type 0
  where
    pub more : List Receipt
    pub these : HasGotThese more old new
    pub found : AreReceiptsOf script steps more

-- the worker went on, and the task was handed receipts that it found
pub record HasGot {H X : Type 0} (script : ScriptModel) (old new : Party H X) : Type 0 where
  pub got : HasGotFrom script (own new.worker.seat.pen.seat) old.task new.task
  pub on : GoesOn old.worker new.worker

-- the task wants an operation of the script that doesn't execute inside its call, and a look at the
-- cells of its lane found no receipt of it
pub record FoundNone {H X : Type 0} (script : ScriptModel) (task : TaskState)
    (old new : WorkerState H X) : Type 0 where
  pub op : ℕ
  pub wants : task.wanted ≡ Some op
  pub fits : has_cell script op ≡ true
  pub none : Finds script op None old.seat new.seat

-- that was the last the worker did
pub record WaitsFrom {H X : Type 0} (script : ScriptModel) (task : TaskState)
    (old new : WorkerState H X) : Type 0 where
  pub looking : WorkerState H X
  pub since : GoesOn old looking
  pub none : FoundNone script task looking new

-- the task got all that it wanted, or wants what is no operation or executes inside its call
abbrev pub IsOver : ScriptModel → TaskEnd → TaskState → Type 0
IsOver script end.Done task = task.left ≡ 0
IsOver script (end.Unfit op) task = (task.wanted ≡ Some op) × (has_cell script op ≡ false)
IsOver script end.Ended task = ⊥
IsOver script end.Stopped task = ⊥
IsOver script end.Fault task = ⊥

-- the worker read that no work is left
abbrev pub HasReadNone : {H X : Type 0} → WorkerState H X → WorkerState H X → Type 0
HasReadNone old new = (found : Found) × HasLooked old new found × (found.work ≡ 0)

-- or that some is
abbrev pub HasReadSome : {H X : Type 0} → WorkerState H X → WorkerState H X → Type 0
HasReadSome old new = (found : Found) × HasLooked old new found × (found.work ≢ 0)

-- the worker did this, and a later look found no receipt
pub record EndsBehind {H X : Type 0} (script : ScriptModel)
    (Did : WorkerState H X → WorkerState H X → Type 0) (old new : Party H X) : Type 0 where
  pub before : WorkerState H X
  pub after : WorkerState H X
  pub since : GoesOn old.worker before
  pub did : Did before after
  pub waits : WaitsFrom script new.task after new.worker

module _ {H X : Type 0} (t : Tries H X) (lanes : ℕ) where
  -- why a task ends
  abbrev pub WhyEnds : TaskEnd → Party H X → Party H X → Type 0
  WhyEnds end.Done old new = IsOver t.terms.names.script end.Done new.task
  WhyEnds (end.Unfit op) old new = IsOver t.terms.names.script (end.Unfit op) new.task
  WhyEnds end.Ended old new = EndsBehind t.terms.names.script HasReadNone old new
  WhyEnds end.Stopped old new =
      EndsBehind t.terms.names.script (HasPolled t lanes one.Stopped) old new
  WhyEnds end.Fault old new = EndsBehind t.terms.names.script (HasPolled t lanes one.Fault) old new

  -- behind such an attempt the task may make another step: something was done, or nothing was found,
  -- and work is left
  abbrev pub MayStepAgain : One → WorkerState H X → WorkerState H X → Type 0
  MayStepAgain (one.Ran op mark) old new = new ≡ old
  MayStepAgain one.Turned old new = new ≡ old
  MayStepAgain one.Nothing old new = HasReadSome old new
  MayStepAgain one.Stopped old new = ⊥
  MayStepAgain one.Fault old new = ⊥
  MayStepAgain (one.Missing op) old new = new ≡ old

  -- why it doesn't: what it wants wasn't found behind an attempt
  pub record WhyGoesOn (old new : Party H X) : Type 0 where
    pub answer : One
    pub before : WorkerState H X
    pub after : WorkerState H X
    pub looked : WorkerState H X
    pub since : GoesOn old.worker before
    pub polled : HasPolled t lanes answer before after
    pub waits : WaitsFrom t.terms.names.script new.task after looked
    pub again : MayStepAgain answer looked new.worker
