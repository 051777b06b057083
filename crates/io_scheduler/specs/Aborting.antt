-- Waits of a timer are being cancelled (Asio reference, basic_waitable_timer::cancel, ::cancel_one: the handlers of
-- the waits are called with operation_aborted): what is kept shows a state in which those that are left still
-- wait, while in the state of the history they are settled.
use Rattle.std.specs.Prelude.{◌≡◌, ℕ, ◌∷◌, Bool, true, false, List, [], map, take}
use Rattle.asio_types.specs.declared.code.Code.TheVariants as code
use Rattle.io_rules.specs.declared.event.Event.{Event}
use Rattle.io_rules.specs.declared.event.Event.TheVariants as event
use Rattle.io_rules.specs.declared.limits.Limits.{Limits}
use Rattle.io_rules.specs.declared.name.Name.{Name}
use Rattle.io_rules.specs.declared.request.Marks.{Marks}
use Rattle.io_rules.specs.Cancelling.{cancelled}
use Rattle.io_rules.specs.Legal.{MayHappen, state_of}
use Rattle.io_rules.specs.Names.{Names}
use Rattle.io_rules.specs.State.{ContextState, TimerState}
use Rattle.io_strands.specs.declared.ready.ReadyOp.{ReadyOp}
use Rattle.io_strands.specs.Cell.{Cell}
use Rattle.io_jobs.specs.Listed.{JobList}
use Rattle.io_timers.specs.declared.pending.PendingWait.{PendingWait}
use Rattle.io_timers.specs.Pending.{Entry, Timers, number_of, waits_on}
use Rattle.io_scheduler.specs.declared.counts.Counts.{Counts}
use Rattle.io_scheduler.specs.declared.tally.Tally.{Tally}
use Rattle.io_scheduler.specs.declared.waiting.Waiting.{Waiting}
use Rattle.io_scheduler.specs.Shown.{Shows}
use Rattle.io_scheduler.specs.Tallied.{IsTally}
use Rattle.io_scheduler.specs.Waits.{ShowsWaits}

-- the waits of a timer, in order of acceptance
abbrev pub numbers_on : {T : Type 0} → Name → List (Entry (PendingWait T)) → List ℕ
numbers_on timer waits = map number_of (waits_on timer waits)

-- all of them are cancelled, or the first
abbrev pub those_of : Bool → List ℕ → List ℕ
those_of true numbers = numbers
those_of false numbers = take 1 numbers

-- those that are left once the first has completed
abbrev pub those_left : Bool → List ℕ → List ℕ
those_left true numbers = numbers
those_left false numbers = []

-- a change has given it these names and expiries
abbrev pub with_changed : Names → List TimerState → ContextState → ContextState
with_changed names timers s = record s { names = names; timers = timers }

pub record IsCancelling {H S : Type 0} (marks : H → Marks) (limits : Limits) (counts : Counts) (names : Names)
    (cells : List (Cell H S)) (jobs : JobList (ReadyOp H)) (timers : Timers (Waiting H)) (tally : Tally)
    (numbers : List ℕ) (s : ContextState) : Type 0 where
  pub waiting : ContextState
  pub is : s ≡ with_changed s.names s.timers (cancelled numbers waiting)
  pub strands : s.names.strands ≡ waiting.names.strands
  pub shows : Shows marks limits counts names cells jobs waiting
  pub waits : ShowsWaits marks limits timers waiting
  pub tallied : IsTally tally waiting

-- the first of these has completed
pub record HasAborted (limits : Limits) (numbers left : List ℕ) (old new : List Event) : Type 0 where
  pub op : ℕ
  pub first : numbers ≡ op ∷ left
  pub may : MayHappen (state_of limits old) (event.Done op code.Aborted 0)
  pub is : new ≡ event.Done op code.Aborted 0 ∷ old

-- one has, or there is none
abbrev pub IsAbortedIf : Bool → Limits → List ℕ → List ℕ → List Event → List Event → Type 0
IsAbortedIf true limits numbers left old new = HasAborted limits numbers left old new
IsAbortedIf false limits numbers left old new = (numbers ≡ []) × (new ≡ old)
