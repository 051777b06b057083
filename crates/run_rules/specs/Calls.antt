-- What became of an operation: its call, its completion, its begin or drop (Overview, "Asynchronous Operations":
-- an initiating function, and a completion handler that is called at most once).
use Rattle.std.specs.Prelude.{◌≡◌, ℕ, List, [], ◌∷◌, Bool, true, false, ◌==◌, if◌then◌else◌, length, Option, Some, None, IsSome}
use Rattle.std.specs.List.{list_any}
use Rattle.std.specs.Option.{option_or, option_map, option_and_then}
use Rattle.run_lines.specs.declared.code.Code.{Code}
use Rattle.run_lines.specs.declared.line.Doing.{Doing}
use Rattle.run_lines.specs.declared.line.Doing.TheVariants as doing
use Rattle.run_lines.specs.declared.line.Line.{Line}
use Rattle.run_lines.specs.declared.word.Word.{Word}
use Rattle.run_lines.specs.declared.word.Word.TheVariants.{Post, Defer, Dispatch, Other}
use Rattle.run_rules.specs.declared.frame.Frame.{Frame}
use Rattle.run_rules.specs.Stacks.{frame}

-- how an operation was called: by whom, and as which line, counted from the oldest
pub record Calling : Type 0 where
  pub word : Word
  pub context : ℕ
  pub strand : Option ℕ
  pub thing : Option ℕ
  pub caller : Frame
  pub thread : ℕ
  pub place : ℕ

-- how an asynchronous operation completed, and as which line
pub record Completion : Type 0 where
  pub code : Code
  pub size : ℕ
  pub thread : ℕ
  pub place : ℕ

-- the call of an operation, if it is what this line does
abbrev pub call_in : Frame → ℕ → ℕ → Doing → ℕ → Option Calling
call_in caller thread place (doing.Call number word context strand thing) op =
    if number == op
    then Some
    (record {
      word = word;
      context = context;
      strand = strand;
      thing = thing;
      caller = caller;
      thread = thread;
      place = place;
    }) else None
call_in caller thread place _ op = None

-- the call of an operation
abbrev pub call_of : List Line → ℕ → Option Calling
call_of [] op = None
call_of (line ∷ past) op = option_or (call_in (frame past line.thread) line.thread (length past) line.does op) (call_of past op)

-- the completion of an operation, if it is what this line does
abbrev pub done_in : ℕ → ℕ → Doing → ℕ → Option Completion
done_in thread place (doing.Done number code size) op =
    if number == op then Some (record { code = code; size = size; thread = thread; place = place }) else None
done_in thread place _ op = None

-- the completion of an asynchronous operation
abbrev pub done_of : List Line → ℕ → Option Completion
done_of [] op = None
done_of (line ∷ past) op = option_or (done_in line.thread (length past) line.does op) (done_of past op)

abbrev pub begins : Doing → ℕ → Bool
begins (doing.Begin number code size) op = number == op
begins _ op = false

abbrev pub drops : Doing → ℕ → Bool
drops (doing.Drop number) op = number == op
drops _ op = false

-- the handler of an operation has begun
abbrev pub is_begun : List Line → ℕ → Bool
is_begun past op = list_any (λ (line : Line). begins line.does op) past

-- the handler of an operation was destroyed without a call
abbrev pub is_dropped : List Line → ℕ → Bool
is_dropped past op = list_any (λ (line : Line). drops line.does op) past

-- an operation waits: it was called, and has neither begun nor been dropped
pub record Waits (past : List Line) (op : ℕ) : Type 0 where
  pub called : IsSome (call_of past op)
  pub not_begun : is_begun past op ≡ false
  pub not_dropped : is_dropped past op ≡ false

-- a call that submits a handler at once: `post`, `defer` and `dispatch`
abbrev pub is_posting : Word → Bool
is_posting Post = true
is_posting Defer = true
is_posting Dispatch = true
is_posting (Other letters) = false

abbrev pub word_of : List Line → ℕ → Option Word
word_of past op = option_map (λ (call : Calling). call.word) (call_of past op)

abbrev pub context_of : List Line → ℕ → Option ℕ
context_of past op = option_map (λ (call : Calling). call.context) (call_of past op)

abbrev pub strand_of : List Line → ℕ → Option ℕ
strand_of past op = option_and_then (λ (call : Calling). call.strand) (call_of past op)

abbrev pub thing_of : List Line → ℕ → Option ℕ
thing_of past op = option_and_then (λ (call : Calling). call.thing) (call_of past op)

abbrev pub caller_of : List Line → ℕ → Option Frame
caller_of past op = option_map (λ (call : Calling). call.caller) (call_of past op)

-- an operation was called by this word
abbrev pub IsPosting : List Line → ℕ → Type 0
IsPosting past op = option_map is_posting (word_of past op) ≡ Some true

-- what a line makes of the call that a frame made last and that isn't known to be back
abbrev pub last_call_after : Doing → Option ℕ → Option ℕ
last_call_after (doing.Call op word context strand thing) last = Some op
last_call_after (doing.Back op) last = None
last_call_after _ last = last
