-- What each step of a seat is to a history: of a draw the event whose position it draws, of a place
-- the act that it is for. Which steps make a call of an execution (Asio reference, asio::post,
-- asio::dispatch, io_context::stop; the steps are this project's own).
use Rattle.std.specs.Prelude.{◌≡◌, ℕ, true, false, List, [], ◌∷◌, ◌++◌, Some, map, nat_lt, slice_index, if◌then◌else◌}
use Rattle.asio_types.specs.declared.code.Code.{Code}
use Rattle.asio_types.specs.declared.code.Code.TheVariants as code
use Rattle.asio_types.specs.declared.event.Event.{Event}
use Rattle.asio_types.specs.declared.event.Event.TheVariants as event
use Rattle.session_script.specs.Script.{ScriptModel, stops}
use Rattle.session_script.specs.Lanes.{is_inline}
use Rattle.op_handlers.specs.declared.call.Ran.{Ran}
use Rattle.strand_core.specs.declared.posted.Posted.{Posted}
use Rattle.strand_core.specs.declared.posted.Posted.TheVariants as posted
use Rattle.lane_clock.specs.declared.found.Change.{Change}
use Rattle.lane_clock.specs.declared.found.Change.TheVariants as change
use Rattle.lane_clock.specs.declared.found.Found.{Found}
use Rattle.lane_clock.specs.declared.note.Note.{Note}
use Rattle.lane_clock.specs.declared.step.ClockStep.{ClockStep}
use Rattle.lane_clock.specs.declared.step.ClockStep.TheVariants.{Draw, Place, Put}
use Rattle.lane_map.specs.LaneNumbers.{asked_lane, cells_of}
use Rattle.lane_logs.specs.declared.log.LogEntry.{LogEntry}

-- a step, and what it is to a history: nothing, or the draw of an event's position, or a place of a
-- lane for an act
pub data Labelled : Type 0 where
  silent : (step : ClockStep) → Labelled
  shows : (shown : Event) (changes : Change) (found : Found) → Labelled
  allots : (act lane place : ℕ) → Labelled

abbrev pub step_of : Labelled → ClockStep
step_of (silent step) = step
step_of (shows shown changes found) = Draw shown changes found
step_of (allots act lane place) = Place lane place

abbrev pub steps_in : List Labelled → List ClockStep
steps_in labels = map step_of labels

-- the entries of a log: each draw has one, at the clock that it found
abbrev pub entries_in : List Labelled → List LogEntry
entries_in [] = []
entries_in (silent step ∷ labels) = entries_in labels
entries_in (shows shown changes found ∷ labels) =
    record { position = found.clock; event = shown } ∷ entries_in labels
entries_in (allots act lane place ∷ labels) = entries_in labels

-- the events of a log
abbrev pub events_in : List LogEntry → List Event
events_in entries = map (λ entry. entry.event) entries

-- a note is put where its place has a cell
abbrev pub put_within : ScriptModel → ℕ → ℕ → Note → List Labelled
put_within script lane place note =
    if nat_lt place (slice_index (cells_of script) lane) then silent (Put lane place note) ∷ []
    else []

-- what a posting or a request is put with
abbrev pub call_note : ℕ → Note
call_note act = record { op = act; code = code.Ok; size = 0 }

-- One call of an execution, and the steps that make it. A posted act is one that neither stops the
-- context nor executes inside its call: it is drawn, gets a place on the lane that it asks, and is
-- put there.
pub data IsDrawn (script : ScriptModel) : Posted → List Labelled → Type 0 where
  begins : {op size : ℕ} {with_code : Code} {found : Found} →
      IsDrawn script (posted.Begin op with_code size found.clock)
      (shows (event.Begin op with_code size) change.Same found ∷ [])
  posts : {act place : ℕ} {found : Found} →
      stops script act ≡ false → is_inline script act ≡ false →
      IsDrawn script (posted.Call act)
      (shows (event.Call act) change.Up found ∷ allots act (asked_lane script act) place
      ∷ put_within script (asked_lane script act) place (call_note act))
  dispatches : {act : ℕ} {found : Found} →
      stops script act ≡ false → is_inline script act ≡ true →
      IsDrawn script (posted.Call act) (shows (event.Call act) change.Up found ∷ [])
  stops_context : {act : ℕ} {called stopped : Found} → stops script act ≡ true →
      IsDrawn script (posted.Call act)
      (shows (event.Call act) change.Same called
      ∷ shows (event.Stop (Some act)) change.Stop stopped ∷ [])
  returns : {act : ℕ} {found : Found} →
      IsDrawn script (posted.Back act) (shows (event.Back act) change.Same found ∷ [])
  ends : {op : ℕ} {ran : Ran} {found : Found} →
      IsDrawn script (posted.End op ran) (shows (event.End op ran.mark) change.Down found ∷ [])

-- calls one after another, and the steps that make them
pub data AreDrawn (script : ScriptModel) : List Posted → List Labelled → Type 0 where
  none_drawn : AreDrawn script [] []
  one_drawn : {calls : List Posted} {call : Posted} {labels made : List Labelled} →
      AreDrawn script calls labels → IsDrawn script call made →
      AreDrawn script (calls ++ call ∷ []) (labels ++ made)
