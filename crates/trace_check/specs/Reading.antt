-- What a text is as a trace: the events that it lists, or the line at which it lists none.
use Rattle.std.specs.Prelude.{◌≡◌, ◌≢◌, ◌<◌, ◌≤◌, ◌+◌, ◌⊎◌, ℕ, List, [], ◌++◌, length, ⊤}
use Rattle.asio_types.specs.declared.event.Event.{Event}
use Rattle.history_book.specs.Trace.{AreEvents, HasItsNumbers, line_of, trace_of}
use Rattle.trace_check.specs.declared.reading.TraceFault.{TraceFault}
use Rattle.trace_check.specs.declared.reading.TraceFault.TheVariants as fault

-- the most bytes of a trace
abbrev pub most_trace : ℕ
most_trace = 1048576

-- the text is the trace of these events, whose numbers fit their types
abbrev pub IsTraceOf : List ℕ → List Event → Type 0
IsTraceOf bytes events = AreEvents events × (bytes ≡ trace_of events)

-- the line of an event stands at the front
abbrev pub BeginsWithEvent : List ℕ → Type 0
BeginsWithEvent bytes =
    (event : Event) × (tail : List ℕ) × HasItsNumbers event × (bytes ≡ line_of event ++ tail)

-- The lines before this one, numbered from 1, are those of events; more text follows, and the line
-- of an event doesn't stand at its front.
pub record BadLine (bytes : List ℕ) (line : ℕ) : Type 0 where
  pub events : List Event
  pub numbers : AreEvents events
  pub rest : List ℕ
  pub lines_before : bytes ≡ trace_of events ++ rest
  pub number_of_line : line ≡ length events + 1
  pub more : rest ≢ []
  pub no_event : BeginsWithEvent rest → ⊥

-- The text is no trace: it is too long, which counts as line 0, or it is bad at this line.
abbrev pub IsBadTrace : List ℕ → ℕ → Type 0
IsBadTrace bytes line =
    ((most_trace < length bytes) × (line ≡ 0)) ⊎ ((length bytes ≤ most_trace) × BadLine bytes line)

-- when each fault comes
abbrev pub IsFaultOf : List ℕ → TraceFault → Type 0
IsFaultOf bytes (fault.Text line) = IsBadTrace bytes line
IsFaultOf bytes fault.NoMemory = ⊤

-- where a line is named, it is this one
abbrev pub NamesLine : ℕ → TraceFault → Type 0
NamesLine line (fault.Text named) = named ≡ line
NamesLine line fault.NoMemory = ⊤
