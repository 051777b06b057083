-- In which order the handlers of a strand begin in a strict run (reference, io_context::strand, "Order of handler invocation";
-- strand::dispatch).
use Rattle.std.specs.Prelude.{◌≡◌, ◌<◌, ◌⊎◌, ◌+◌, ◌==◌, ℕ, List, [], ◌∷◌, if◌then◌else◌, length, Option, Some, None, IsSomeAnd}
use Rattle.std.specs.List.{list_any}
use Rattle.std.specs.Option.{option_or}
use Rattle.run_lines.specs.declared.line.Doing.{Doing}
use Rattle.run_lines.specs.declared.line.Doing.TheVariants as doing
use Rattle.run_lines.specs.declared.line.Line.{Line}
use Rattle.run_lines.specs.declared.word.Word.{Word}
use Rattle.run_lines.specs.declared.word.Word.TheVariants.{Post, Defer, Dispatch, Other}
use Rattle.run_rules.specs.Stacks.{stack}
use Rattle.run_rules.specs.Starting.{is_on}

-- how many handlers of a strand have begun: each is a turn of that strand
abbrev pub turns_after : List Line → ℕ → Doing → ℕ → ℕ
turns_after past strand (doing.Begin op code size) before = if is_on past strand op then before + 1 else before
turns_after past strand _ before = before

abbrev pub turns : List Line → ℕ → ℕ
turns [] strand = 0
turns (line ∷ past) strand = turns_after past strand line.does (turns past strand)

-- the turn of a strand that goes on on this thread
abbrev pub turn_on : List Line → ℕ → Option ℕ → Option ℕ
turn_on past thread None = None
turn_on past thread (Some strand) = if list_any (is_on past strand) (stack past thread) then Some (turns past strand) else None

-- how an operation became ready: by which line, and in which turn if a handler of its own strand dispatched it
pub record Readiness : Type 0 where
  pub place : ℕ
  pub turn : Option ℕ

-- a call by this word, made in this turn, makes its operation ready
abbrev pub ready_by : Word → Option ℕ → ℕ → Option Readiness
ready_by Post turn place = Some (record { place = place; turn = None })
ready_by Defer turn place = Some (record { place = place; turn = None })
ready_by Dispatch turn place = Some (record { place = place; turn = turn })
ready_by (Other letters) turn place = None

-- what a line makes ready: what it posts, or what it completes
abbrev pub ready_in : List Line → ℕ → Doing → ℕ → Option Readiness
ready_in past thread (doing.Call number word context strand thing) op =
    if number == op then ready_by word (turn_on past thread strand) (length past) else None
ready_in past thread (doing.Done number code size) op =
    if number == op then Some (record { place = length past; turn = None }) else None
ready_in past thread _ op = None

abbrev pub readiness : List Line → ℕ → Option Readiness
readiness [] op = None
readiness (line ∷ past) op = option_or (readiness past op) (ready_in past line.thread line.does op)

-- what a handler dispatched to its own strand goes before all else; of that, what a later handler dispatched goes first, and of
-- what one handler dispatched, and of all else, what became ready first
abbrev pub Before : Option ℕ → ℕ → Option ℕ → ℕ → Type 0
Before None place None later = place < later
Before (Some turn) place None later = Unit {0}
Before None place (Some other) later = ⊥
Before (Some turn) place (Some other) later = (other < turn) ⊎ ((turn ≡ other) × (place < later))

abbrev pub Precedes : Readiness → Readiness → Type 0
Precedes one other = Before one.turn one.place other.turn other.place

-- of two operations that are ready, the first goes before the other
abbrev pub GoesAhead : List Line → ℕ → ℕ → Type 0
GoesAhead past first other =
    IsSomeAnd (readiness past first) (λ one. IsSomeAnd (readiness past other) (λ two. Precedes one two))
