-- What the draws of a session's seats were told, by the lists of all steps: which event stands at which position of the
-- history, and that the end of a handler was told what the call of the handler answered (Asio reference, Overview,
-- "The Proactor Design Pattern"; the draws are this project's own).
use Rattle.std.specs.Prelude.{◌≡◌, ℕ, List}
use lib.ListN.{get_elem?}
use mathlib.Core.Option.{some}
use Rattle.asio_types.specs.declared.code.Code.{Code}
use Rattle.asio_types.specs.declared.event.Event.{Event}
use Rattle.asio_types.specs.declared.event.Event.TheVariants as event
use Rattle.op_handlers.specs.Marks.{call_of}
use Rattle.session_script.specs.WellFormed.{IsWellFormed}
use Rattle.lane_clock.specs.declared.found.Change.{Change}
use Rattle.lane_clock.specs.declared.found.Found.{Found}
use Rattle.lane_clock.specs.declared.step.ClockStep.TheVariants.{Draw}
use Rattle.lane_clock.specs.Rule.{StepAt}
use Rattle.lane_logs.specs.Logs.{AreLogs, LogsView}
use Rattle.lane_logs.specs.Names.{SessionNames}
use Rattle.history_merge.specs.Merging.{IsMerging}

-- a seat drew this position, and the draw was told this event
pub record IsDrawnAt (logs : LogsView) (seat position : ℕ) (shown : Event) : Type 0 where
  pub at : ℕ
  pub changes : Change
  pub found : Found
  pub draws : StepAt logs.lists seat at (Draw shown changes found)
  pub clock : found.clock ≡ position

-- the event at a position of the merged history is the one that the draw of this position was told
abbrev pub HistoryIsDrawn : Type 0
HistoryIsDrawn =
    (names : SessionNames) (logs : LogsView) (events : List Event) → AreLogs names logs →
    (merging : IsMerging logs events) (position : ℕ) (shown : Event) →
    get_elem? merging.drawn position ≡ some shown →
    (seat : ℕ) × IsDrawnAt logs seat position shown

-- the operation's handler answers this mark where it is called with what a begin says that the seat drew, and with
-- the position of this begin
pub record IsAnswered (names : SessionNames) (logs : LogsView) (seat op mark : ℕ) : Type 0 where
  pub code : Code
  pub size : ℕ
  pub begun : ℕ
  pub begins : IsDrawnAt logs seat begun (event.Begin op code size)
  pub is : mark ≡ names.run op (call_of op code size begun)

-- each draw of an end was told such a mark: so the call had returned before, and was made behind the begin
abbrev pub EndsAreAnswered : Type 0
EndsAreAnswered =
    (names : SessionNames) (logs : LogsView) → IsWellFormed names.script → AreLogs names logs →
    (seat at op mark : ℕ) (changes : Change) (found : Found) →
    StepAt logs.lists seat at (Draw (event.End op mark) changes found) →
    IsAnswered names logs seat op mark
