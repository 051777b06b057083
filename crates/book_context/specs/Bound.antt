-- How many events an execution has at most, so that room can be made before it.
use Rattle.std.specs.Prelude.{◌≤◌, ℕ, ◌+◌, ◌*◌, List, length}
use Rattle.asio_types.specs.declared.code.Code.{Code}
use Rattle.session_script.specs.Script.{ScriptModel, opening_of}
use Rattle.session_script.specs.WellFormed.{IsWellFormed}
use Rattle.strand_core.specs.declared.posted.Posted.{Posted}
use Rattle.strand_core.specs.Execution.{AnyMark, AreCalls, IsWholeExecution, events_of}

-- a begin and an end, and of each act at most its call, its return, and a begin and an end
abbrev pub most_events : ScriptModel → ℕ
most_events script = 4 * length script.acts + 2

abbrev pub ExecutionsAreBounded : Type 0
ExecutionsAreBounded =
    (script : ScriptModel) (op : ℕ) (code : Code) (size : ℕ) (calls : List Posted) →
    IsWellFormed script → IsWholeExecution script AnyMark op code size calls →
    length (events_of script calls) ≤ most_events script

abbrev pub OpeningsAreBounded : Type 0
OpeningsAreBounded =
    (script : ScriptModel) (calls : List Posted) →
    IsWellFormed script → AreCalls script AnyMark (opening_of script) calls →
    length (events_of script calls) ≤ most_events script
