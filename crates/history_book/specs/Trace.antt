-- The trace of a history: one line for each event, its words separated by one space.
use Rattle.std.specs.Prelude.{ℕ, ◌<◌, ◌^◌, List, [], ◌∷◌, ◌++◌, Some, None, codes}
use Rattle.std.specs.Fmt.{decimal}
use Rattle.std.specs.List.{flat_map}
use Rattle.asio_types.specs.declared.code.Code.{Code}
use Rattle.asio_types.specs.declared.code.Code.TheVariants as code
use Rattle.asio_types.specs.declared.event.Event.{Event}
use Rattle.asio_types.specs.declared.event.Event.TheVariants as event

abbrev pub space : List ℕ
space = 32 ∷ []

-- LF
abbrev pub line_end : List ℕ
line_end = 10 ∷ []

abbrev pub word_of_code : Code → List ℕ
word_of_code code.Ok = codes "ok"
word_of_code code.Aborted = codes "aborted"
word_of_code code.Eof = codes "eof"
word_of_code code.NotFound = codes "not_found"
word_of_code code.Bad = codes "bad"
word_of_code code.Broken = codes "broken"
word_of_code code.Reset = codes "reset"

-- the line of an event
abbrev pub line_of : Event → List ℕ
line_of (event.Call act) = codes "call " ++ decimal act ++ line_end
line_of (event.Back act) = codes "back " ++ decimal act ++ line_end
line_of (event.Stop (Some act)) = codes "stop " ++ decimal act ++ line_end
line_of (event.Stop None) = codes "stop -" ++ line_end
line_of (event.Begin op code size) =
    codes "begin " ++ decimal op ++ space ++ word_of_code code ++ space ++ decimal size ++ line_end
line_of (event.End op mark) = codes "end " ++ decimal op ++ space ++ decimal mark ++ line_end
line_of (event.Take act) = codes "take " ++ decimal act ++ line_end
line_of (event.Done op code size) =
    codes "done " ++ decimal op ++ space ++ word_of_code code ++ space ++ decimal size ++ line_end
line_of (event.Tick now) = codes "tick " ++ decimal now ++ line_end
line_of event.Last = codes "last" ++ line_end
line_of event.Fault = codes "fault" ++ line_end
line_of event.Ended = codes "ended" ++ line_end
line_of event.Stopped = codes "stopped" ++ line_end
line_of event.Polled = codes "polled" ++ line_end
line_of event.Restart = codes "restart" ++ line_end
line_of (event.Dropped op mark) = codes "drop " ++ decimal op ++ space ++ decimal mark ++ line_end

-- the lines of these events, in their order
abbrev pub trace_of : List Event → List ℕ
trace_of events = flat_map line_of events

-- a number of 32 bits
abbrev Is32 : ℕ → Type 0
Is32 number = number < 2 ^ 32

-- a number of 64 bits
abbrev Is64 : ℕ → Type 0
Is64 number = number < 2 ^ 64

-- the numbers of an event fit their types
abbrev pub HasItsNumbers : Event → Type 0
HasItsNumbers (event.Call act) = Is32 act
HasItsNumbers (event.Back act) = Is32 act
HasItsNumbers (event.Stop (Some act)) = Is32 act
HasItsNumbers (event.Stop None) = Unit {0}
HasItsNumbers (event.Begin op code size) = Is32 op × Is32 size
HasItsNumbers (event.End op mark) = Is32 op × Is64 mark
HasItsNumbers (event.Take act) = Is32 act
HasItsNumbers (event.Done op code size) = Is32 op × Is32 size
HasItsNumbers (event.Tick now) = Is64 now
HasItsNumbers event.Last = Unit {0}
HasItsNumbers event.Fault = Unit {0}
HasItsNumbers event.Ended = Unit {0}
HasItsNumbers event.Stopped = Unit {0}
HasItsNumbers event.Polled = Unit {0}
HasItsNumbers event.Restart = Unit {0}
HasItsNumbers (event.Dropped op mark) = Is32 op × Is64 mark

-- events whose numbers fit their types
abbrev pub AreEvents : List Event → Type 0
AreEvents [] = Unit {0}
AreEvents (event ∷ events) = HasItsNumbers event × AreEvents events
