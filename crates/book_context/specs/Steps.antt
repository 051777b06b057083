-- The calls of `open` and the executions that a context records.
use Rattle.std.specs.Prelude.{◌≡◌, ◌<◌, ◌≤◌, ℕ, ◌+◌, Bool, true, false, ◌||◌, List, ◌∷◌, length, slice_get}
use Rattle.asio_types.specs.declared.code.Code.{Code}
use Rattle.asio_types.specs.declared.event.Event.{Event}
use Rattle.session_script.specs.Script.{ScriptModel, is_op, opening_of}
use Rattle.session_script.specs.Lanes.{is_inline}
use Rattle.session_script.specs.WellFormed.{IsWellFormed}
use Rattle.history_rules.specs.Executions.{MayBeginOutside}
use Rattle.history_rules.specs.Legal.{MayHappen, after_event, state_from}
use Rattle.history_rules.specs.Rounds.{RoundIsOpen, restarts}
use Rattle.history_rules.specs.State.{first_reactor}
use Rattle.strand_core.specs.declared.posted.Posted.{Posted}
use Rattle.strand_core.specs.Execution.{AnyMark, AreCalls, IsWholeExecution, events_of}
use Rattle.strand_core.specs.Hands.{IsInlineOf, begins_among}
use Rattle.execution_laws.specs.Order.{postings_of, requests_of}
use Rattle.book_context.specs.Left.{most_history}
use Rattle.book_context.specs.Recorded.{IsRecorded, is_spent_at, recorded_half, recorded_state}
use Rattle.book_context.specs.Recording.{Recording, new_recording, with_calls}

-- a round is left, and its restart has come
pub record IsRoundOpen (r : Recording) : Type 0 where
  pub left : r.closings < length r.script.rounds
  pub restarted : restarts (slice_get r.script.rounds r.closings) ≡ true → r.restarted ≡ true

abbrev pub OpenRoundsAreKnown : Type 0
OpenRoundsAreKnown =
    (told : Bool) (r : Recording) → IsRecorded told r → IsRoundOpen r →
    RoundIsOpen r.script (recorded_state told r).context

-- where a handler wasn't spent, none that executes inside its execution was
abbrev pub UnspentKeepInline : Type 0
UnspentKeepInline =
    (told : Bool) (r : Recording) (caller n : ℕ) →
    IsRecorded told r → IsInlineOf r.script caller n → is_spent_at told r caller ≡ false →
    is_spent_at told r n ≡ false

-- one event may come next, there is room for it, and this is recorded after it
pub record EventIsRecorded (told : Bool) (r : Recording) (event : Event) (t : Recording)
    : Type 0 where
  pub may : MayHappen r.script told (recorded_state told r) event
  pub room : 1 ≤ r.spare
  pub recorded : IsRecorded told t
  pub state : recorded_state told t ≡ after_event r.script told (recorded_state told r) event
  pub spent : (n : ℕ) → is_spent_at told t n ≡ is_spent_at told r n

abbrev pub opened_recording : ScriptModel → List Posted → Recording
opened_recording script calls = with_calls calls (new_recording script (most_history script))

-- the calls of `open` are recorded
pub record OpeningIsRecorded (told : Bool) (script : ScriptModel) (calls : List Posted)
    : Type 0 where
  pub room : length (events_of script calls) ≤ most_history script
  pub recorded : IsRecorded told (opened_recording script calls)
  pub reactor : recorded_half told (opened_recording script calls) ≡ first_reactor script told
  pub spent : (n : ℕ) → is_spent_at told (opened_recording script calls) n ≡ false

abbrev pub OpeningsAreRecorded : Type 0
OpeningsAreRecorded =
    (told : Bool) (script : ScriptModel) (calls : List Posted) →
    IsWellFormed script → AreCalls script AnyMark (opening_of script) calls →
    OpeningIsRecorded told script calls

-- an operation may execute, and there is room for what it may call
pub record MayExecute (told : Bool) (r : Recording) (op : ℕ) (code : Code) (size : ℕ)
    (newer : List (ℕ × Code × ℕ)) : Type 0 where
  pub may : MayBeginOutside r.script (recorded_state told r).context op code size
  pub outside : is_inline r.script op ≡ false
  pub operation : is_op r.script op ≡ true
  pub unspent : is_spent_at told r op ≡ false
  pub events : (calls : List Posted) → IsWholeExecution r.script AnyMark op code size calls →
      length (events_of r.script calls) ≤ r.spare
  pub postings : (calls : List Posted) → IsWholeExecution r.script AnyMark op code size calls →
      length newer + length (postings_of r.script calls) ≤ length r.script.acts
  pub requests : (calls : List Posted) → IsWholeExecution r.script AnyMark op code size calls →
      length r.requests + length (requests_of r.script calls) ≤ length r.script.acts

abbrev pub executed_recording : Recording → List (ℕ × Code × ℕ) → List Posted → Recording
executed_recording r newer calls = with_calls calls (record r { ready = newer })

-- its execution is recorded
pub record ExecutionIsRecorded (told : Bool) (r : Recording) (newer : List (ℕ × Code × ℕ))
    (calls : List Posted) : Type 0 where
  pub recorded : IsRecorded told (executed_recording r newer calls)
  pub state : recorded_state told (executed_recording r newer calls)
      ≡ state_from r.script told (recorded_state told r) (events_of r.script calls)
  pub reactor : recorded_half told (executed_recording r newer calls) ≡ recorded_half told r
  pub spent : (n : ℕ) →
      is_spent_at told (executed_recording r newer calls) n
      ≡ (is_spent_at told r n || begins_among n calls)

-- the oldest ready operation, in an open round of a context that isn't stopped
abbrev pub OldestMayExecute : Type 0
OldestMayExecute =
    (told : Bool) (r : Recording) (op : ℕ) (code : Code) (size : ℕ) (newer : List (ℕ × Code × ℕ)) →
    IsRecorded told r → r.ready ≡ (op, code, size) ∷ newer → r.stopped ≡ false → IsRoundOpen r →
    MayExecute told r op code size newer

abbrev pub ExecutionsAreRecorded : Type 0
ExecutionsAreRecorded =
    (told : Bool) (r : Recording) (op : ℕ) (code : Code) (size : ℕ) (newer : List (ℕ × Code × ℕ))
    (calls : List Posted) →
    IsRecorded told r → r.ready ≡ (op, code, size) ∷ newer → r.stopped ≡ false → IsRoundOpen r →
    IsWholeExecution r.script AnyMark op code size calls → ExecutionIsRecorded told r newer calls
