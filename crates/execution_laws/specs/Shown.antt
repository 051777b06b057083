-- What the events of calls show.
use Rattle.std.specs.Prelude.{◌≡◌, ℕ, Bool, true, false, All, List, [], ◌∷◌, ◌++◌, Some}
use Rattle.asio_types.specs.declared.code.Code.{Code}
use Rattle.asio_types.specs.declared.event.Event.{Event}
use Rattle.asio_types.specs.declared.event.Event.TheVariants as event
use Rattle.session_script.specs.Script.{ScriptModel, opening_of}
use Rattle.session_script.specs.WellFormed.{IsWellFormed}
use Rattle.execution_laws.specs.Marks.{AreMarked, BeginsAt, HasToldMarks, IsToldMark}
use Rattle.op_handlers.specs.Marks.{own_marks}
use Rattle.op_handlers.specs.declared.call.Call.{Call}
use Rattle.strand_core.specs.declared.posted.Posted.{Posted}
use Rattle.strand_core.specs.declared.posted.Posted.TheVariants as posted
use Rattle.strand_core.specs.Execution.{AnyMark, AreCalls, IsWholeExecution, events_of}

-- the run marks of handlers, by the number of their operation and what they are called with
abbrev pub IsRunMark : (ℕ → Call → ℕ) → Call → ℕ → Type 0
IsRunMark run call mark = mark ≡ run call.op call

-- something is said of each begin: of its operation, code and size, and of the position that it got
abbrev pub EachBegin : (ℕ → Code → ℕ → ℕ → Type 0) → List Posted → Type 0
EachBegin Begins [] = Unit {0}
EachBegin Begins (posted.Begin op code size begun ∷ calls) =
    Begins op code size begun × EachBegin Begins calls
EachBegin Begins (posted.Call act ∷ calls) = EachBegin Begins calls
EachBegin Begins (posted.Back act ∷ calls) = EachBegin Begins calls
EachBegin Begins (posted.End op ran ∷ calls) = EachBegin Begins calls

-- an event of a call: of the call itself, of a stop during it, or of a handler that executes
abbrev pub is_of_call : Event → Bool
is_of_call (event.Call a) = true
is_of_call (event.Back a) = true
is_of_call (event.Stop (Some a)) = true
is_of_call (event.Begin o code size) = true
is_of_call (event.End o mark) = true
is_of_call _ = false

abbrev pub CallsShowTheirEvents : Type 0
CallsShowTheirEvents =
    (script : ScriptModel) (calls : List Posted) →
    All (λ event. is_of_call event ≡ true) (events_of script calls)

-- an execution whose handlers have these marks is one with any marks
abbrev pub AnyMarkServes : Type 0
AnyMarkServes =
    (script : ScriptModel) (run : ℕ → Call → ℕ) (op : ℕ) (code : Code) (size : ℕ)
    (calls : List Posted) →
    IsWholeExecution script (IsRunMark run) op code size calls →
    IsWholeExecution script AnyMark op code size calls

-- an execution shows the marks of its handlers, each called with what its begin says, where its
-- begins are in the history
abbrev pub ExecutionsShowMarks : Type 0
ExecutionsShowMarks =
    (script : ScriptModel) (run : ℕ → Call → ℕ) (drop : ℕ → ℕ) (history : List Event) (op : ℕ)
    (code : Code) (size : ℕ) (calls : List Posted) →
    IsWholeExecution script (IsRunMark run) op code size calls →
    EachBegin (BeginsAt history) calls →
    AreMarked (IsToldMark (own_marks run) (BeginsAt history)) drop (events_of script calls)

-- in the calls of `open` no handler executes
abbrev pub OpeningsShowNoMarks : Type 0
OpeningsShowNoMarks =
    (script : ScriptModel) (run : ℕ → Code → ℕ → ℕ → ℕ) (drop : ℕ → ℕ) (history : List Event)
    (calls : List Posted) →
    IsWellFormed script → AreCalls script AnyMark (opening_of script) calls →
    AreMarked (IsToldMark run (BeginsAt history)) drop (events_of script calls)

-- a history goes on by events whose marks are of its begins
abbrev pub MarksGoOn : Type 0
MarksGoOn =
    (run : ℕ → Code → ℕ → ℕ → ℕ) (drop : ℕ → ℕ) (first rest : List Event) →
    HasToldMarks run drop first →
    AreMarked (IsToldMark run (BeginsAt (first ++ rest))) drop rest →
    HasToldMarks run drop (first ++ rest)
