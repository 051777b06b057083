-- A task as a future, with who makes its steps, and what a worker's step comes to (Asio reference,
-- "Requirements on asynchronous operations").
use Rattle.std.specs.Prelude.{◌≡◌, false, Option, IfNone, IfSome}
use Rattle.session_script.specs.Script.{ScriptModel}
use Rattle.lane_map.specs.LaneNumbers.{has_cell}
use Rattle.turn_table.specs.Seated.{Lanes}
use Rattle.lane_turns.specs.Attempts.{IsSeated}
use Rattle.lane_turns.specs.LaneValues.{Tries}
use Rattle.op_future.specs.declared.task_end.TaskEnd.{TaskEnd}
use Rattle.op_future.specs.declared.task_end.TaskEnd.TheVariants as end
use Rattle.op_future.specs.Steps.{HasGot, Party, WhyEnds, WhyGoesOn}
use Rattle.op_future.specs.Tasks.{TaskState}

pub record FutureState (C W : Type 0) : Type 0 where
  pub context : C
  -- who makes the task's steps
  pub worker : W
  pub task : TaskState

-- a worker's step of a task answered so
pub record HasStepped {H X : Type 0} (t : Tries H X) (lanes : Lanes) (answer : Option TaskEnd)
    (old new : Party H X) : Type 0 where
  pub got : HasGot t.terms.names.script old new
  pub ended : IfSome answer (λ now. WhyEnds t lanes.lanes now old new)
  pub goes_on : IfNone answer (WhyGoesOn t lanes.lanes old new)
  pub turns : IsSeated lanes new.worker

-- how a task of this script may end: what is unfit is no operation or executes inside its call
abbrev pub MayEnd : ScriptModel → TaskEnd → Type 0
MayEnd script (end.Unfit op) = has_cell script op ≡ false
MayEnd script end.Done = Unit {0}
MayEnd script end.Ended = Unit {0}
MayEnd script end.Stopped = Unit {0}
MayEnd script end.Fault = Unit {0}
