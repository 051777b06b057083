-- How a line is read: its first word chooses the event, and the fields behind it say the event's
-- numbers and code.
use Rattle.std.specs.Prelude.{ℕ, ◌^◌, List, Option, Some, None, if◌then◌else◌, codes}
use Rattle.std.specs.Str.{bytes_eq}
use Rattle.asio_types.specs.declared.code.Code.{Code}
use Rattle.asio_types.specs.declared.code.Code.TheVariants as code
use Rattle.asio_types.specs.declared.event.Event.{Event}
use Rattle.asio_types.specs.declared.event.Event.TheVariants as event
use Rattle.trace_check.specs.Number.{number}
use Rattle.trace_check.specs.Split.{◌>>=◌, split_once}

-- a code word
unfoldable pub code_in : List ℕ → Option Code
code_in bytes =
    if bytes_eq bytes (codes "ok") then Some code.Ok
    else (if bytes_eq bytes (codes "aborted") then Some code.Aborted
    else (if bytes_eq bytes (codes "eof") then Some code.Eof
    else (if bytes_eq bytes (codes "not_found") then Some code.NotFound
    else (if bytes_eq bytes (codes "bad") then Some code.Bad
    else (if bytes_eq bytes (codes "broken") then Some code.Broken
    else (if bytes_eq bytes (codes "reset") then Some code.Reset
    else None))))))

-- an operation and its mark
unfoldable pub mark_in : List ℕ → Option (ℕ × ℕ)
mark_in bytes = do
  parts ← split_once 32 bytes
  op ← number (2 ^ 32) parts.0
  mark ← number (2 ^ 64) parts.1
  Some (op, mark)

-- an operation, its code and its size
unfoldable pub outcome_in : List ℕ → Option (ℕ × Code × ℕ)
outcome_in bytes = do
  parts ← split_once 32 bytes
  fields ← split_once 32 parts.1
  op ← number (2 ^ 32) parts.0
  code ← code_in fields.0
  size ← number (2 ^ 32) fields.1
  Some (op, code, size)

-- a stop by an act, or by none
unfoldable pub stop_event : List ℕ → Option Event
stop_event bytes =
    if bytes_eq bytes (codes "-") then Some (event.Stop None)
    else (number (2 ^ 32) bytes >>= λ act. Some (event.Stop (Some act)))

-- the event of a line of one word
unfoldable pub bare_event : List ℕ → Option Event
bare_event word =
    if bytes_eq word (codes "last") then Some event.Last
    else (if bytes_eq word (codes "fault") then Some event.Fault
    else (if bytes_eq word (codes "ended") then Some event.Ended
    else (if bytes_eq word (codes "stopped") then Some event.Stopped
    else (if bytes_eq word (codes "polled") then Some event.Polled
    else (if bytes_eq word (codes "restart") then Some event.Restart
    else None)))))

-- the event of a line of several words
unfoldable pub event_with : List ℕ → List ℕ → Option Event
event_with word fields =
    if bytes_eq word (codes "call") then (number (2 ^ 32) fields >>= λ act. Some (event.Call act))
    else (if bytes_eq word (codes "back")
    then (number (2 ^ 32) fields >>= λ act. Some (event.Back act))
    else (if bytes_eq word (codes "stop") then stop_event fields
    else (if bytes_eq word (codes "begin")
    then (outcome_in fields >>= λ of. Some (event.Begin of.0 of.1 of.2))
    else (if bytes_eq word (codes "end")
    then (mark_in fields >>= λ of. Some (event.End of.0 of.1))
    else (if bytes_eq word (codes "take")
    then (number (2 ^ 32) fields >>= λ act. Some (event.Take act))
    else (if bytes_eq word (codes "done")
    then (outcome_in fields >>= λ of. Some (event.Done of.0 of.1 of.2))
    else (if bytes_eq word (codes "tick")
    then (number (2 ^ 64) fields >>= λ now. Some (event.Tick now))
    else (if bytes_eq word (codes "drop")
    then (mark_in fields >>= λ of. Some (event.Dropped of.0 of.1))
    else None))))))))

-- the event of a line that was split behind its first word
abbrev pub line_event : List ℕ → Option (List ℕ × List ℕ) → Option Event
line_event line (Some parts) = event_with parts.0 parts.1
line_event line None = bare_event line

-- the event of a line, without its LF
unfoldable pub event_in : List ℕ → Option Event
event_in line = line_event line (split_once 32 line)
