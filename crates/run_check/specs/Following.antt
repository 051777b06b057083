-- What a line makes of what the checker keeps.
use Rattle.std.specs.Prelude.{◌≡◌, ◌≢◌, ℕ, List, Bool, true, false, ◌==◌, if◌then◌else◌, Option, Some, None}
use Rattle.std.specs.Option.{option_and_then, option_map}
use Rattle.run_lines.specs.declared.code.Code.{Code}
use Rattle.run_lines.specs.declared.line.Doing.{Doing}
use Rattle.run_lines.specs.declared.line.Doing.TheVariants as doing
use Rattle.run_lines.specs.declared.word.Word.{Word}
use Rattle.run_rules.specs.declared.frame.Frame.{Frame}
use Rattle.run_rules.specs.declared.taking.Resource.TheVariants.{Thing, Lock}
use Rattle.run_rules.specs.declared.taking.Taking.{Taking}
use Rattle.run_rules.specs.Calls.{is_posting}
use Rattle.run_check.specs.After.{kind_of}
use Rattle.run_check.specs.Judging.{is_number}
use Rattle.run_check.specs.Queues.{spot_at}
use Rattle.run_check.specs.Stacks.{outer_of}
use Rattle.run_check.specs.Takings.{is_in}
use Rattle.run_check.specs.declared.queues.Queues.{Queues}
use Rattle.run_check.specs.declared.stacks.Execution.{Execution}
use Rattle.run_check.specs.declared.waiting.Waiter.{Waiter}

-- an operation that is called by the line at this place
abbrev pub called : Word → ℕ → Option ℕ → Option ℕ → Frame → ℕ → Waiter
called word context strand thing caller place = record {
  kind = kind_of word;
  context = context;
  strand = strand;
  thing = thing;
  caller = caller;
  place = place;
  entry = if is_posting word then Some place else None;
  outcome = None;
}

-- an operation that waits, completed by the line at this place
abbrev pub completed : ℕ → Code → ℕ → Waiter → Waiter
completed place code size waiter = record {
  kind = waiter.kind;
  context = waiter.context;
  strand = waiter.strand;
  thing = waiter.thing;
  caller = waiter.caller;
  place = waiter.place;
  entry = Some place;
  outcome = Some (record { code = code; size = size });
}

-- what is kept of any operation behind a line by this frame at this place
abbrev pub waiter_after : Frame → ℕ → Doing → ℕ → Option Waiter → Option Waiter
waiter_after caller place (doing.Call op word context strand thing) other before =
    if op == other then Some (called word context strand thing caller place) else before
waiter_after caller place (doing.Done op code size) other before =
    if op == other then option_map (completed place code size) before else before
waiter_after caller place (doing.Begin op code size) other before = if op == other then None else before
waiter_after caller place (doing.Drop op) other before = if op == other then None else before
waiter_after caller place _ other before = before

-- the innermost execution of any thread; found is what is kept of executions
abbrev pub innermost_after : (ℕ → Option Execution) → ℕ → Doing → ℕ → Option ℕ → Option ℕ
innermost_after found thread (doing.Begin op code size) other top = if thread == other then Some op else top
innermost_after found thread (doing.End op) other top = if thread == other then outer_of (found op) else top
innermost_after found thread (doing.Throw op) other top = if thread == other then outer_of (found op) else top
innermost_after found thread _ other top = top

-- what is kept of any execution; outer is the innermost one of this thread, own the strand that a begin lets in
abbrev pub execution_after : Option ℕ → Option ℕ → Doing → ℕ → Option Execution → Option Execution
execution_after outer own (doing.Begin op code size) other before =
    if op == other then Some (record { outer = outer; strand = own }) else before
execution_after outer own (doing.End op) other before = if op == other then None else before
execution_after outer own (doing.Throw op) other before = if op == other then None else before
execution_after outer own _ other before = before

-- who holds any strand; own is the strand that a begin lets in, or that an end lets go
abbrev pub holder_after : ℕ → Option ℕ → Doing → ℕ → Option ℕ → Option ℕ
holder_after thread own (doing.Begin op code size) other before = if is_number own other then Some thread else before
holder_after thread own (doing.End op) other before = if is_number own other then None else before
holder_after thread own (doing.Throw op) other before = if is_number own other then None else before
holder_after thread own _ other before = before

-- what a line gives back is taken
abbrev pub GivesWhatIsTaken : ℕ → Frame → Doing → List Taking → Type 0
GivesWhatIsTaken thread who (doing.Release thing) all =
    is_in (record { thread = thread; frame = who; resource = Thing thing }) all ≡ true
GivesWhatIsTaken thread who (doing.Unlock lock) all =
    is_in (record { thread = thread; frame = who; resource = Lock lock }) all ≡ true
GivesWhatIsTaken thread who _ all = Unit {0}

-- whether a line spends the handler of this operation
abbrev pub spends : Doing → ℕ → Bool
spends (doing.Begin op code size) other = op == other
spends (doing.Drop op) other = op == other
spends _ other = false

-- an operation and its strand, if it has one
abbrev pub to_place_with : ℕ → Option ℕ → Option (ℕ × ℕ)
to_place_with op None = None
to_place_with op (Some strand) = Some (op, strand)

-- the operation that a thread submitted last, and its strand, if it waits on one
abbrev pub to_place : Option ℕ → (ℕ → Option Waiter) → Option (ℕ × ℕ)
to_place None find = None
to_place (Some op) find = to_place_with op (option_and_then (λ (w : Waiter). w.strand) (find op))

-- where any operation stands, once this one is placed
abbrev pub place_after : Option (ℕ × ℕ) → ℕ → ℕ → Option (ℕ × ℕ) → Option (ℕ × ℕ)
place_after None place other before = before
place_after (Some entered) place other before = if entered.0 == other then Some (entered.1, place) else before

-- what is to be placed stands nowhere, and nothing stands there
abbrev pub CanPlace : Queues → Option (ℕ × ℕ) → ℕ → Type 0
CanPlace kept None place = Unit {0}
CanPlace kept (Some entered) place =
    (spot_at kept entered.0 ≡ None) × ((other : ℕ) → spot_at kept other ≢ Some (entered.1, place))
