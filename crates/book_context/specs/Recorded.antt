-- That what a context has recorded is a legal history so far, with the state of which it knows what
-- it needs.
use Rattle.std.specs.Prelude.{◌≡◌, ◌<◌, ◌≤◌, ℕ, ◌+◌, Bool, false, length}
use Rattle.std.specs.List.{slice_index_or}
use Rattle.asio_types.specs.Faults.{most_faults}
use Rattle.session_script.specs.Script.{opening_of}
use Rattle.session_script.specs.WellFormed.{IsWellFormed}
use Rattle.history_rules.specs.Legal.{IsLegalSoFar, state_of}
use Rattle.history_rules.specs.State.{ReactorHalf, State, call_at, phase_at}
use Rattle.history_rules.specs.Bounds.{AllAhead}
use Rattle.execution_laws.specs.Accounted.{IsAccounted}
use Rattle.execution_laws.specs.Kinds.{AreOfKind, is_spent, was_called}
use Rattle.execution_laws.specs.Lanes.{IsFreeUnlessStopped}
use Rattle.execution_laws.specs.Order.{IsKept}
use Rattle.execution_laws.specs.Standing.{IsStanding}
use Rattle.book_context.specs.Left.{events_left}
use Rattle.book_context.specs.Recording.{Recording}

-- the state of the history that was recorded
abbrev pub recorded_state : Bool → Recording → State
recorded_state told r = state_of r.script told r.events

abbrev pub recorded_half : Bool → Recording → ReactorHalf
recorded_half told r = (recorded_state told r).reactor

-- whether the handler of an operation was run or destroyed
abbrev pub is_spent_at : Bool → Recording → ℕ → Bool
is_spent_at told r n = is_spent (phase_at (recorded_state told r).context n)

-- what was recorded is a legal history so far, and tells of this state what a context needs
pub record Knows (told : Bool) (r : Recording) (s : State) : Type 0 where
  pub script : IsWellFormed r.script
  pub legal : IsLegalSoFar r.script told r.events
  pub kept : IsKept r.script s r.ready r.requests
  -- a reactor that has failed tells nothing any more
  pub accounted : s.reactor.failed ≡ false → IsAccounted r.script s
  pub standing : s.reactor.failed ≡ false → IsStanding s
  pub ahead : AllAhead s.reactor
  pub kinds : AreOfKind r.script s.context
  pub free : IsFreeUnlessStopped r.script s.context
  pub opened : s.context.opening
      ≡ record { made = length (opening_of r.script); back = length (opening_of r.script) }
  pub called : (n : ℕ) → slice_index_or r.called n false ≡ was_called (call_at s.context n)
  pub called_size : length r.called ≡ length r.script.acts
  pub stopped : s.context.stopped ≡ r.stopped
  pub restarted : s.context.restarted ≡ r.restarted
  pub closings : s.context.closings ≡ r.closings
  pub alive : s.context.dropping ≡ false
  pub room : events_left r.script s ≤ r.spare
  -- events are counted within 64 bits
  pub within : s.context.events + r.spare < most_faults

-- what holds of a context whenever its lock is free, until handlers are destroyed; told says
-- whether bytes are told
abbrev pub IsRecorded : Bool → Recording → Type 0
IsRecorded told r = Knows told r (recorded_state told r)
