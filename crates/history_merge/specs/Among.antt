-- The events of one execution among those of other lanes (Asio reference, Overview, "Strands: Use
-- Threads Without Explicit Locking").
use Rattle.std.specs.Prelude.{◌≡◌, ◌≢◌, ℕ, Bool, true, false, List, [], ◌∷◌, None, Some, length}
use Rattle.asio_types.specs.declared.code.Code.{Code}
use Rattle.asio_types.specs.declared.event.Event.{Event}
use Rattle.asio_types.specs.declared.event.Event.TheVariants as event
use Rattle.asio_types.specs.declared.number.Lane.{Lane}
use Rattle.session_script.specs.Script.{Place, ScriptModel, parent_of}
use Rattle.session_script.specs.Lanes.{is_inline, lane_of}
use Rattle.session_script.specs.WellFormed.{IsWellFormed}
use Rattle.history_rules.specs.Calls.{is_open}
use Rattle.history_rules.specs.Executions.{MayBeginOutside}
use Rattle.history_rules.specs.Legal.{IsLegalFrom, MayHappen, after_event, state_from}
use Rattle.history_rules.specs.State.{ContextState, State, act_at, call_at, fresh, phase_at}
use Rattle.history_rules.specs.declared.phase.ActPhase.{ActPhase}
use Rattle.history_rules.specs.declared.phase.ActPhase.TheVariants as phase
use Rattle.strand_core.specs.Execution.{AnyMark, IsWholeExecution, events_of}
use Rattle.strand_core.specs.declared.posted.Posted.{Posted}

-- the acts of this place are called by a handler of this lane
abbrev pub IsPlaceOn : ScriptModel → Lane → Place → Type 0
IsPlaceOn script lane None = ⊥
IsPlaceOn script lane (Some place) = lane_of script place.0 ≡ lane

-- they are called by a handler of another lane, or by nobody's handler
abbrev pub IsPlaceOff : ScriptModel → Lane → Place → Type 0
IsPlaceOff script lane None = Unit {0}
IsPlaceOff script lane (Some place) = lane_of script place.0 ≢ lane

-- a handler runs, or is to run inside its call
abbrev pub is_underway : ActPhase → Bool
is_underway (phase.Running class progress) = true
is_underway phase.Inside = true
is_underway _ = false

-- no handler of a lane is under way, and no call by one is open
pub record LaneIsIdle (script : ScriptModel) (lane : Lane) (s : ContextState) : Type 0 where
  pub quiet : (n : ℕ) → lane_of script n ≡ lane → is_underway (phase_at s n) ≡ false
  pub back : (n : ℕ) → IsPlaceOn script lane (parent_of script n) → is_open (call_at s n) ≡ false

-- the event isn't of this lane: the handler that it is of, or whose call it is of, has another; and
-- what it calls wasn't called, and what it completes was requested
abbrev pub IsOfOthers : ScriptModel → Lane → ContextState → Event → Type 0
IsOfOthers script lane s (event.Call a) =
    IsPlaceOff script lane (parent_of script a) × (act_at s a ≡ fresh)
IsOfOthers script lane s (event.Stop (Some a)) = IsPlaceOff script lane (parent_of script a)
IsOfOthers script lane s (event.Back a) = IsPlaceOff script lane (parent_of script a)
IsOfOthers script lane s (event.Begin o code size) = lane_of script o ≢ lane
IsOfOthers script lane s (event.End o mark) = lane_of script o ≢ lane
IsOfOthers script lane s (event.Done o code size) = phase_at s o ≡ phase.Requested
IsOfOthers script lane s (event.Dropped o mark) = lane_of script o ≢ lane
IsOfOthers script lane s _ = Unit {0}

-- these events of a lane come in their order, from a state on, among events of others that are
-- legal where they come
pub data AreAmong (script : ScriptModel) (told : Bool) (lane : Lane)
    : State → List Event → List Event → Type 0 where
  none_left : {s : State} → AreAmong script told lane s [] []
  own_next : {s : State} {shown : Event} {own all : List Event} →
      AreAmong script told lane (after_event script told s shown) own all →
      AreAmong script told lane s (shown ∷ own) (shown ∷ all)
  other_next : {s : State} {shown : Event} {own all : List Event} →
      MayHappen script told s shown → IsOfOthers script lane s.context shown →
      AreAmong script told lane (after_event script told s shown) own all →
      AreAmong script told lane s own (shown ∷ all)

-- the events are legal, and leave the lane idle
pub record IsLegalToIdle (script : ScriptModel) (told : Bool) (lane : Lane) (s : State)
    (events : List Event) : Type 0 where
  pub legal : IsLegalFrom script told s events
  pub idle : LaneIsIdle script lane (state_from script told s events).context

-- a whole execution that may begin stays legal among what other lanes do
abbrev pub ExecutionsStayLegal : Type 0
ExecutionsStayLegal =
    (script : ScriptModel) (told : Bool) (s : State) (op : ℕ) (code : Code) (size : ℕ)
    (calls : List Posted) (own all : List Event) →
    IsWellFormed script → length s.context.acts ≡ length script.acts →
    is_inline script op ≡ false → LaneIsIdle script (lane_of script op) s.context →
    MayBeginOutside script s.context op code size →
    IsWholeExecution script AnyMark op code size calls →
    events_of script calls ≡ event.Begin op code size ∷ own →
    AreAmong script told (lane_of script op)
    (after_event script told s (event.Begin op code size)) own all →
    IsLegalToIdle script told (lane_of script op) s (event.Begin op code size ∷ all)
