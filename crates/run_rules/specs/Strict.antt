-- What a context keeps besides whose calls take effect in one order, and on which no handler is executed inside another
-- (reference, io_context::run, ::stop, ::~io_context; strand::dispatch, whose handler such a context executes once the handler
-- that calls has returned).
use Rattle.std.specs.Prelude.{◌≡◌, ◌<◌, ◌+◌, ℕ, List, [], ◌∷◌, ◌++◌, Bool, ◌==◌, drop, if◌then◌else◌, insert, length, Option, Some, None, IfSome, IsSome}
use Rattle.std.specs.List.{list_any}
use Rattle.run_lines.specs.declared.line.Doing.{Doing}
use Rattle.run_lines.specs.declared.line.Doing.TheVariants as doing
use Rattle.run_lines.specs.declared.line.Line.{Line}
use Rattle.run_lines.specs.declared.word.Word.{Word}
use Rattle.run_lines.specs.declared.word.Word.TheVariants.{Post, Defer, Dispatch, Other}
use Rattle.run_rules.specs.declared.level.Level.{Level}
use Rattle.run_rules.specs.declared.level.Strictness.TheVariants.{Strict}
use Rattle.run_rules.specs.Stacks.{first_of, stack}
use Rattle.run_rules.specs.Calls.{context_of, strand_of}
use Rattle.run_rules.specs.Entries.{entry_of}
use Rattle.run_rules.specs.Starting.{is_on}

abbrev pub IsStrict : Level → Type 0
IsStrict level = level.strictness ≡ Strict

-- what is ready on a strand, the next one first; and how many of it the handler dispatched that began there last
pub record Ready : Type 0 where
  pub queue : List ℕ
  pub front : ℕ

-- before all that was ready when that handler began, and behind what it dispatched before
abbrev pub put_first : ℕ → Ready → Ready
put_first op ready = record { queue = insert ready.queue ready.front op; front = ready.front + 1 }

abbrev pub put_last : ℕ → Ready → Ready
put_last op ready = record { queue = ready.queue ++ op ∷ []; front = ready.front }

-- the next one begins, and has dispatched nothing
abbrev pub next_gone : Ready → Ready
next_gone ready = record { queue = drop 1 ready.queue; front = 0 }

-- a call by this word, from inside this strand or not
abbrev pub ready_called : Bool → Word → ℕ → Ready → Ready
ready_called inside Post op ready = put_last op ready
ready_called inside Defer op ready = put_last op ready
ready_called inside Dispatch op ready = if inside then put_first op ready else put_last op ready
ready_called inside (Other letters) op ready = ready

-- what a line of a thread makes of what is ready on a strand; behind a drop nothing begins any more
abbrev pub ready_after : List Line → ℕ → ℕ → Doing → Ready → Ready
ready_after past strand thread (doing.Call op word context None thing) ready = ready
ready_after past strand thread (doing.Call op word context (Some other) thing) ready =
    if other == strand then ready_called (list_any (is_on past strand) (stack past thread)) word op ready else ready
ready_after past strand thread (doing.Done op code size) ready = if is_on past strand op then put_last op ready else ready
ready_after past strand thread (doing.Begin op code size) ready = if is_on past strand op then next_gone ready else ready
ready_after past strand thread _ ready = ready

abbrev pub ready_on : List Line → ℕ → Ready
ready_on [] strand = record { queue = []; front = 0 }
ready_on (line ∷ past) strand = ready_after past strand line.thread line.does (ready_on past strand)

-- the place of the line by which a context was stopped last, if it is stopped
abbrev pub stopped_after : ℕ → Doing → ℕ → Option ℕ → Option ℕ
stopped_after place (doing.Stop other) context since = if other == context then Some place else since
stopped_after place (doing.Restart other) context since = if other == context then None else since
stopped_after place _ context since = since

abbrev pub stopped_since : List Line → ℕ → Option ℕ
stopped_since [] context = None
stopped_since (line ∷ past) context = stopped_after (length past) line.does context (stopped_since past context)

-- the operation that was dropped last
abbrev pub dropped_after : Doing → Option ℕ → Option ℕ
dropped_after (doing.Drop op) last = Some op
dropped_after _ last = last

abbrev pub dropped_last : List Line → Option ℕ
dropped_last [] = None
dropped_last (line ∷ past) = dropped_after line.does (dropped_last past)

abbrev pub IsReady : List Line → ℕ → Type 0
IsReady past op = IsSome (entry_of past op)

abbrev pub IsNext : List Line → ℕ → Type 0
IsNext past op = (strand : ℕ) → strand_of past op ≡ Some strand → first_of (ready_on past strand).queue ≡ Some op

abbrev pub IsAllowed : List Line → ℕ → Type 0
IsAllowed past op = (context : ℕ) → context_of past op ≡ Some context → stopped_since past context ≡ None

-- nothing was dropped
abbrev pub IsGoing : List Line → Type 0
IsGoing past = dropped_last past ≡ None

-- nothing executes, and what was dropped has smaller numbers
pub record IsFinishing (past : List Line) (op : ℕ) : Type 0 where
  pub idle : (thread : ℕ) → stack past thread ≡ []
  pub rising : IfSome (dropped_last past) (λ last. last < op)

pub record MayBeginStrictly (past : List Line) (thread op : ℕ) : Type 0 where
  -- reference, Asynchronous operations: a handler is submitted when its operation is complete
  pub ready : IsReady past op
  -- reference, strand: handlers begin in the order in which they became ready; what a handler dispatched to its own strand
  -- goes before
  pub next : IsNext past op
  -- reference, io_context::stop: no handler begins before the context is restarted
  pub allowed : IsAllowed past op
  -- no handler is executed inside another
  pub alone : stack past thread ≡ []
  -- nothing begins on a context that is destroyed
  pub going : IsGoing past

-- whether a thread may do this next as far as the strict rules have a say
abbrev pub MayDoStrictly : List Line → ℕ → Doing → Type 0
MayDoStrictly past thread (doing.Begin op code size) = MayBeginStrictly past thread op
-- reference, io_context::~io_context: it destroys what wasn't called, here by rising number, and nothing happens behind that
MayDoStrictly past thread (doing.Drop op) = IsFinishing past op
MayDoStrictly past thread _ = IsGoing past
