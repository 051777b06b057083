-- Which waits are pending, with their handlers, shows what waits in the state of the history.
use Rattle.std.specs.Prelude.{◌≡◌, ℕ, ◌+◌, Bool, true, false, List, [], ◌∷◌, Some, None, length, map, sum_by}
use Rattle.io_rules.specs.declared.limits.Limits.{Limits}
use Rattle.io_rules.specs.declared.name.Lane.{Lane}
use Rattle.io_rules.specs.declared.name.Lane.TheVariants as lane
use Rattle.io_rules.specs.declared.op.Op.{Op}
use Rattle.io_rules.specs.declared.op.Phase.{Phase}
use Rattle.io_rules.specs.declared.op.Phase.TheVariants as phase
use Rattle.io_rules.specs.declared.operation.Operation.TheVariants as operation
use Rattle.io_rules.specs.declared.place.Place.{Place}
use Rattle.io_rules.specs.declared.request.Marks.{Marks}
use Rattle.io_rules.specs.Names.{is_current, place_at}
use Rattle.io_rules.specs.Ops.{op_at}
use Rattle.io_rules.specs.Room.{one_if}
use Rattle.io_rules.specs.State.{ContextState}
use Rattle.io_timers.specs.declared.pending.PendingWait.{PendingWait}
use Rattle.io_timers.specs.Kept.{Rises}
use Rattle.io_timers.specs.Pending.{Entry, Timers, wait_of}
use Rattle.io_scheduler.specs.declared.waiting.Waiting.{Waiting}
use Rattle.io_scheduler.specs.Shown.{is_used_place}
use Rattle.io_scheduler.specs.Streaming.{on_streams}

-- the strand of a lane is there, though its name may be gone
abbrev pub IsThere : List Place → Lane → Type 0
IsThere places lane.Own = Unit {0}
IsThere places (lane.Strand name) =
    (is_current places name ≡ true) × (is_used_place (place_at places name.place) ≡ true)

-- an operation with its handler: it waits for this timer, and then for a handler's turn on this lane
pub record IsWaitingAs {H : Type 0} (marks : H → Marks) (ops : List Op) (wait : PendingWait (Waiting H)) :
    Type 0 where
  pub op : Op
  pub is : op_at ops wait.op ≡ Some op
  pub lane : op.lane ≡ wait.item.lane
  pub binding : op.binding ≡ None
  pub kind : op.kind ≡ operation.Wait wait.timer
  pub given : op.marks ≡ marks wait.item.handler
  pub phase : op.phase ≡ phase.Pending 0 false

abbrev pub ArePending : {H : Type 0} → (H → Marks) → List Op → List (Entry (PendingWait (Waiting H))) → Type 0
ArePending marks ops [] = Unit {0}
ArePending marks ops (wait ∷ waits) = IsWaitingAs marks ops wait.item × ArePending marks ops waits

-- it hasn't completed
abbrev pub is_incomplete : Phase → Bool
is_incomplete (phase.Pending moved cancelled) = true
is_incomplete (phase.Settled code size) = true
is_incomplete _ = false

abbrev pub incomplete_in : List Op → ℕ
incomplete_in ops = sum_by (λ (op : Op). one_if (is_incomplete op.phase)) ops

pub record ShowsWaits {H : Type 0} (marks : H → Marks) (limits : Limits) (timers : Timers (Waiting H))
    (s : ContextState) : Type 0 where
  pub timers_are : timers.timers ≡ s.timers
  pub places : length s.timers ≡ length s.names.timers
  pub waits_are : map wait_of timers.waits ≡ s.waits
  pub rises : Rises timers.waits
  pub each : ArePending marks s.ops timers.waits
  -- nothing else is pending than these and the operations of streams
  pub all : length timers.waits + on_streams s.streams ≡ incomplete_in s.ops
  pub room : timers.room + length timers.waits ≡ limits.operations
