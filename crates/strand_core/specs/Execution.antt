-- The calls of one execution (Asio reference, `asio::dispatch`, which may call its handler inside
-- its own call; Overview, "Strands: Use Threads Without Explicit Locking").
use Rattle.std.specs.Prelude.{◌≡◌, ℕ, List, [], ◌∷◌, ◌++◌, Some, true, false, if◌then◌else◌}
use Rattle.asio_types.specs.Code.{class_of_code}
use Rattle.asio_types.specs.declared.code.Code.{Code}
use Rattle.asio_types.specs.declared.code.Code.TheVariants as code
use Rattle.asio_types.specs.declared.code.Class.TheVariants as class
use Rattle.asio_types.specs.declared.event.Event.{Event}
use Rattle.asio_types.specs.declared.event.Event.TheVariants as event
use Rattle.op_handlers.specs.Marks.{call_of}
use Rattle.op_handlers.specs.declared.call.Call.{Call}
use Rattle.session_script.specs.Script.{ScriptModel, branch_of, stops}
use Rattle.session_script.specs.Lanes.{is_inline}
use Rattle.strand_core.specs.declared.posted.Posted.{Posted}
use Rattle.strand_core.specs.declared.posted.Posted.TheVariants as posted

-- the calls of a body, between the begin of its handler and its end with the run mark and the
-- position of that begin
abbrev pub execution_of : ℕ → Code → ℕ → ℕ → ℕ → List Posted → List Posted
execution_of op code size begun mark body =
    posted.Begin op code size begun
    ∷ (body ++ posted.End op (record { mark = mark; class = class_of_code code; begun = begun })
    ∷ [])

-- the calls of acts one after another: of each its call, then its own execution where it is inline,
-- then its back. An operation that is inline is a posting, whose code is ok and whose size is 0;
-- HasMark says which run mark its handler has for its call, which is told what its begin says and the
-- position of that.
pub data AreCalls (script : ScriptModel) (HasMark : Call → ℕ → Type 0)
    : List ℕ → List Posted → Type 0 where
  no_act : AreCalls script HasMark [] []
  outside : {act : ℕ} {acts : List ℕ} {calls : List Posted} →
      is_inline script act ≡ false → AreCalls script HasMark acts calls →
      AreCalls script HasMark (act ∷ acts) (posted.Call act ∷ posted.Back act ∷ calls)
  inside : {act begun mark : ℕ} {acts : List ℕ} {body calls : List Posted} →
      is_inline script act ≡ true → HasMark (call_of act code.Ok 0 begun) mark →
      AreCalls script HasMark (branch_of script act class.Ok) body →
      AreCalls script HasMark acts calls →
      AreCalls script HasMark (act ∷ acts)
      (posted.Call act ∷ (execution_of act code.Ok 0 begun mark body ++ posted.Back act ∷ calls))

-- the calls of one whole execution of an operation with its code and size
pub record IsWholeExecution (script : ScriptModel) (HasMark : Call → ℕ → Type 0) (op : ℕ)
    (code : Code) (size : ℕ) (calls : List Posted) : Type 0 where
  pub begun : ℕ
  pub mark : ℕ
  pub body : List Posted
  pub marked : HasMark (call_of op code size begun) mark
  pub acts : AreCalls script HasMark (branch_of script op (class_of_code code)) body
  pub is : calls ≡ execution_of op code size begun mark body

-- whatever the marks
abbrev pub AnyMark : Call → ℕ → Type 0
AnyMark call mark = Unit {0}

-- the events of some calls; the call of an act that stops the context is two
abbrev pub events_of : ScriptModel → List Posted → List Event
events_of script [] = []
events_of script (posted.Begin op code size begun ∷ calls) =
    event.Begin op code size ∷ events_of script calls
events_of script (posted.Call act ∷ calls) =
    if stops script act then event.Call act ∷ event.Stop (Some act) ∷ events_of script calls
    else event.Call act ∷ events_of script calls
events_of script (posted.Back act ∷ calls) = event.Back act ∷ events_of script calls
events_of script (posted.End op ran ∷ calls) = event.End op ran.mark ∷ events_of script calls
