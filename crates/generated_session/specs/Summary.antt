-- The summary of a history in eight lines: what was started, executed and dropped, how many
-- operations were cancelled, the sum of the marks of the handlers that ran, the last time, and how
-- it ended.
use Rattle.std.specs.Prelude.{ℕ, ◌+◌, Bool, true, false, List, [], ◌∷◌, ◌++◌, codes, count_by, sum_by, if◌then◌else◌}
use Rattle.std.specs.List.{flat_map}
use Rattle.std.specs.Fmt.{decimal}
use Rattle.asio_types.specs.declared.code.Code.TheVariants as code
use Rattle.asio_types.specs.declared.event.Event.{Event}
use Rattle.asio_types.specs.declared.event.Event.TheVariants as event
use Rattle.history_rules.specs.FromOutside.{has_fault}
use Rattle.history_book.specs.Trace.{space, line_end}
use Rattle.generated_session.specs.declared.line.SummaryLine.{SummaryLine}
use Rattle.generated_session.specs.declared.line.SummaryLine.TheVariants as line
use Rattle.generated_session.specs.declared.tally.Closing.{Closing}
use Rattle.generated_session.specs.declared.tally.Closing.TheVariants as closing
-- what a summary says of a history: its numbers, whether the reactor failed, and how the last round
-- closed
pub use Rattle.generated_session.specs.declared.tally.SummaryTally.{SummaryTally}

abbrev pub is_call : Event → Bool
is_call (event.Call a) = true
is_call _ = false

abbrev pub is_end : Event → Bool
is_end (event.End o mark) = true
is_end _ = false

abbrev pub is_drop : Event → Bool
is_drop (event.Dropped o mark) = true
is_drop _ = false

-- an operation that completes with operation_aborted
abbrev pub is_abort : Event → Bool
is_abort (event.Done o code.Aborted size) = true
is_abort _ = false

-- the mark that a handler returned when it ran
abbrev pub run_mark : Event → ℕ
run_mark (event.End o mark) = mark
run_mark _ = 0

-- the time after an event
abbrev pub time_after : ℕ → Event → ℕ
time_after now (event.Tick later) = later
time_after now _ = now

-- the time of the last tick, where it was this before
abbrev pub time_from : ℕ → List Event → ℕ
time_from now [] = now
time_from now (event ∷ events) = time_from (time_after now event) events

-- how the last round closed, after an event
abbrev pub closing_after : Closing → Event → Closing
closing_after last event.Ended = closing.Ended
closing_after last event.Stopped = closing.Stopped
closing_after last event.Polled = closing.Polled
closing_after last _ = last

-- how the last round closed, where the one before did so
abbrev pub closing_from : Closing → List Event → Closing
closing_from last [] = last
closing_from last (event ∷ events) = closing_from (closing_after last event) events

abbrev pub tally_of : List Event → SummaryTally
tally_of events = record {
  acts = count_by is_call events;
  executed = count_by is_end events;
  dropped = count_by is_drop events;
  aborted = count_by is_abort events;
  marks = sum_by run_mark events;
  time = time_from 0 events;
  fault = has_fault events;
  closing = closing_from closing.Open events;
}

-- one more, if so
abbrev pub plus_one_if : Bool → ℕ → ℕ
plus_one_if true n = n + 1
plus_one_if false n = n

-- the sum of the marks, after an event
abbrev pub marks_after : ℕ → Event → ℕ
marks_after sum (event.End o mark) = sum + mark
marks_after sum _ = sum

-- whether the reactor has failed, after an event
abbrev pub fault_after : Bool → Event → Bool
fault_after failed event.Fault = true
fault_after failed _ = failed

-- what a summary says, one event later
abbrev pub tally_after : SummaryTally → Event → SummaryTally
tally_after tally event = record {
  acts = plus_one_if (is_call event) tally.acts;
  executed = plus_one_if (is_end event) tally.executed;
  dropped = plus_one_if (is_drop event) tally.dropped;
  aborted = plus_one_if (is_abort event) tally.aborted;
  marks = marks_after tally.marks event;
  time = time_after tally.time event;
  fault = fault_after tally.fault event;
  closing = closing_after tally.closing event;
}

abbrev pub word_of_closing : Closing → List ℕ
word_of_closing closing.Open = []
word_of_closing closing.Ended = codes "ended"
word_of_closing closing.Stopped = codes "stopped"
word_of_closing closing.Polled = codes "polled"

-- a word, and a number
abbrev pub number_line : List ℕ → ℕ → List ℕ
number_line word number = word ++ decimal number ++ line_end

abbrev pub text_of_line : SummaryLine → List ℕ
text_of_line (line.Made start size) = codes "gen " ++ decimal start ++ space ++ number_line [] size
text_of_line (line.Acts number) = number_line (codes "acts ") number
text_of_line (line.Executed number) = number_line (codes "executed ") number
text_of_line (line.Dropped number) = number_line (codes "dropped ") number
text_of_line (line.Aborted number) = number_line (codes "aborted ") number
text_of_line (line.Marks sum) = number_line (codes "marks ") sum
text_of_line (line.Time now) = number_line (codes "time ") now
text_of_line line.Fault = codes "fault" ++ line_end
text_of_line (line.Closed last) = word_of_closing last ++ line_end

-- the last line: a fault of the reactor, else how the last round closed
abbrev pub last_line : SummaryTally → SummaryLine
last_line tally = if tally.fault then line.Fault else line.Closed tally.closing

-- the eight lines
abbrev pub lines_of : ℕ → ℕ → SummaryTally → List SummaryLine
lines_of start size tally =
    line.Made start size ∷ line.Acts tally.acts ∷ line.Executed tally.executed
    ∷ line.Dropped tally.dropped
    ∷ line.Aborted tally.aborted ∷ line.Marks tally.marks ∷ line.Time tally.time ∷ last_line tally
    ∷ []

-- the summary of a history of the session that a number made
abbrev pub summary_of : ℕ → ℕ → List Event → List ℕ
summary_of start size events = flat_map text_of_line (lines_of start size (tally_of events))
