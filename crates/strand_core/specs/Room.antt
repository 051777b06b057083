-- How many events executions show, so that room for them can be made before.
use Rattle.std.specs.Prelude.{◌≡◌, ℕ, ◌+◌, ◌<◌, ◌≤◌, Bool, true, ◌&&◌, not, List, [], ◌∷◌, length, if◌then◌else◌}
use Rattle.std.specs.List.{range_with_len, sum_by}
use Rattle.asio_types.specs.declared.code.Class.TheVariants as class
use Rattle.asio_types.specs.declared.code.Code.{Code}
use Rattle.session_script.specs.Script.{ScriptModel, branch_of, parent_of, stops}
use Rattle.session_script.specs.WellFormed.{HasParent}
use Rattle.strand_core.specs.Execution.{AnyMark, IsWholeExecution, events_of}
use Rattle.strand_core.specs.Hands.{IsInlineOf, begins_among}
use Rattle.strand_core.specs.declared.posted.Posted.{Posted}
use Rattle.strand_core.specs.declared.posted.Posted.TheVariants as posted

-- the events of acts that are called: of each its call and its return, and the stop of a stop act
abbrev pub shown_in : ScriptModel → List ℕ → ℕ
shown_in script acts = sum_by (λ act. 2 + (if stops script act then 1 else 0)) acts

-- what the handler of an operation shows at most: its begin and its end, and all that the acts of
-- all its branches show
abbrev pub shown_by_handler : ScriptModel → ℕ → ℕ
shown_by_handler script op =
    2 + shown_in script (branch_of script op class.Ok)
    + shown_in script (branch_of script op class.Abort)
    + shown_in script (branch_of script op class.Other)

-- the operations that begin in some calls
abbrev pub begun_in : List Posted → List ℕ
begun_in [] = []
begun_in (posted.Begin op code size begun ∷ calls) = op ∷ begun_in calls
begun_in (posted.Call act ∷ calls) = begun_in calls
begun_in (posted.Back act ∷ calls) = begun_in calls
begun_in (posted.End op ran ∷ calls) = begun_in calls

-- room for all that the handlers show that are held, where a test says which are
abbrev pub room_for : ScriptModel → (ℕ → Bool) → ℕ
room_for script held =
    sum_by (λ n. if held n then shown_by_handler script n else 0)
    (range_with_len 0 (length script.acts))

-- parents come first, as in every script
abbrev pub IsOrdered : ScriptModel → Type 0
IsOrdered script = (n : ℕ) → HasParent script.acts n (parent_of script n)

-- an execution shows at most what the handlers show that begin in it
abbrev pub ExecutionsFit : Type 0
ExecutionsFit = (script : ScriptModel) (op : ℕ) (code : Code) (size : ℕ) (calls : List Posted) →
    IsWholeExecution script AnyMark op code size calls →
    length (events_of script calls) ≤ sum_by (shown_by_handler script) (begun_in calls)

-- where all that execute inside an operation are held with it, an execution leaves at least as much
-- room as the handlers need that still are held: its events and that room are within what all
-- needed before
abbrev pub ExecutionsKeepRoom : Type 0
ExecutionsKeepRoom = (script : ScriptModel) (op : ℕ) (code : Code) (size : ℕ) (calls : List Posted)
    (held : ℕ → Bool) → IsOrdered script → op < length script.acts →
    IsWholeExecution script AnyMark op code size calls → held op ≡ true →
    ((caller n : ℕ) → held caller ≡ true → IsInlineOf script caller n → held n ≡ true) →
    length (events_of script calls) + room_for script (λ n. held n && not (begins_among n calls))
    ≤ room_for script held
