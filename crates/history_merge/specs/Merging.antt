-- The logs of a session put together: each entry at its position, and the drops behind them all; and
-- that this is a legal history of the script on one io_context.
use Rattle.std.specs.Prelude.{◌≡◌, ◌≢◌, ◌⊎◌, ℕ, ◌<◌, Bool, false, List, [], ◌∷◌, ◌++◌, None, length, slice_index}
use Rattle.asio_types.specs.declared.event.Event.{Event}
use Rattle.asio_types.specs.declared.event.Event.TheVariants as event
use Rattle.session_script.specs.Script.{ScriptModel}
use Rattle.session_script.specs.WellFormed.{IsWellFormed}
use Rattle.history_rules.specs.FromOutside.{has_outside_stop}
use Rattle.history_rules.specs.Legal.{IsLegal, state_of}
use Rattle.execution_laws.specs.Marks.{HasToldMarks}
use Rattle.history_rules.specs.Time.{IsIdle}
use Rattle.op_handlers.specs.Marks.{own_marks}
use Rattle.execution_laws.specs.LetGo.{is_uninitiated}
use Rattle.lane_clock.specs.declared.step.ClockStep.TheVariants.{Place}
use Rattle.lane_clock.specs.Rule.{StepAt}
use Rattle.lane_map.specs.LaneNumbers.{cells_of, reactor_lane}
use Rattle.lane_logs.specs.declared.log.LogEntry.{LogEntry}
use Rattle.lane_logs.specs.Drops.{is_untouched}
use Rattle.lane_logs.specs.Half.{half_of}
use Rattle.lane_logs.specs.Logs.{AreLogs, LogsView, all_events, entries_of, missed_by}
use Rattle.lane_logs.specs.Names.{SessionNames}
use Rattle.lane_logs.specs.SeatNumbers.{IsWorkerSeat, lane_count}
use Rattle.history_merge.specs.Ordering.{IsInOrder}

-- the entries of logs in the order of their positions, which are the numbers below a count, and behind
-- them the drops
pub record IsPutTogether (logs : List (List LogEntry)) (count : ℕ) (drops events : List Event)
    : Type 0 where
  pub drawn : List Event
  pub is : events ≡ drawn ++ drops
  pub ordered : IsInOrder logs count drawn

-- A history is the merging of the logs of a session: their entries in the order of their positions, and
-- behind them the drops.
abbrev pub IsMerging : LogsView → List Event → Type 0
IsMerging logs events = IsPutTogether logs.entries logs.last.clock logs.drops events

-- what a lane saw at its next place was there to be executed or taken
abbrev pub NoneIsMissing : ScriptModel → LogsView → Type 0
NoneIsMissing script logs = (lane : ℕ) → lane < lane_count script → missed_by logs lane ≡ None

-- each place that was drawn has a cell
abbrev pub NoneIsBeyond : ScriptModel → LogsView → Type 0
NoneIsBeyond script logs =
    (n i lane place : ℕ) → StepAt logs.lists n i (Place lane place) →
    place < slice_index (cells_of script) lane

-- no worker stopped the context from outside of every handler
abbrev pub NoWorkerStops : ScriptModel → LogsView → Type 0
NoWorkerStops script logs = (n : ℕ) → IsWorkerSeat script n → entries_of logs n ≡ []

-- time moves where nothing is left to do but to wait for the outside
abbrev pub MovesTimeIdly : ScriptModel → Bool → List Event → Type 0
MovesTimeIdly script told events =
    (before after : List Event) (shown : Event) → events ≡ before ++ shown ∷ after →
    ((now : ℕ) × (shown ≡ event.Tick now)) ⊎ (shown ≡ event.Last) →
    IsIdle script (state_of script told before)

-- the merged history is legal, with the marks that are named
pub record IsLegalMerging (names : SessionNames) (logs : LogsView) (events : List Event)
    : Type 0 where
  pub legal : IsLegal names.script names.told events
  pub marked : HasToldMarks (own_marks names.run) names.drop events
  pub unstopped : NoWorkerStops names.script logs → has_outside_stop events ≡ false
  -- an operation that no log has called isn't initiated in it
  pub untouched : (n : ℕ) → n < length names.script.acts →
      is_untouched names (all_events logs) n
      ≡ is_uninitiated names.script (state_of names.script names.told events) n
  pub none_missing : NoneIsMissing names.script logs
  pub none_beyond : NoneIsBeyond names.script logs
  pub idle : MovesTimeIdly names.script names.told events
  -- the reactor was set up: a failure isn't all that happened
  pub set_up : events ≢ event.Fault ∷ []
  -- the turns of the reactor's log give what was sent, and the time
  pub half : (state_of names.script names.told events).reactor
      ≡ half_of names.script names.told (entries_of logs (reactor_lane names.script))

abbrev pub MergedIsLegal : Type 0
MergedIsLegal =
    (names : SessionNames) (logs : LogsView) (events : List Event) →
    IsWellFormed names.script → AreLogs names logs → IsMerging logs events →
    IsLegalMerging names logs events
