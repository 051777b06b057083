-- When the handler of an operation may begin, as far as its strand has a say (reference, io_context::strand and
-- strand::dispatch; Overview, "Strands: Use Threads Without Explicit Locking").
use Rattle.std.specs.Prelude.{◌≡◌, ◌≢◌, ◌≤◌, ℕ, List, [], Bool, Some, IsTrue, IsSomeAnd, IfSome, nat_eq}
use Rattle.std.specs.List.{list_any}
use Rattle.std.specs.Option.{option_eq}
use Rattle.run_lines.specs.declared.code.Code.{Code}
use Rattle.run_lines.specs.declared.code.Code.TheVariants as code
use Rattle.run_lines.specs.declared.line.Line.{Line}
use Rattle.run_lines.specs.declared.word.Word.TheVariants.{Dispatch}
use Rattle.run_rules.specs.declared.level.Level.{Level}
use Rattle.run_rules.specs.declared.level.Strictness.TheVariants.{Plain}
use Rattle.run_rules.specs.Stacks.{stack, frame}
use Rattle.run_rules.specs.Calls.{Completion, Waits, IsPosting, word_of, strand_of, caller_of, done_of}
use Rattle.run_rules.specs.Entries.{Entry, entry_of, placed_at}

-- whether an operation is on this strand
abbrev pub is_on : List Line → ℕ → ℕ → Bool
is_on past strand op = option_eq nat_eq (strand_of past op) (Some strand)

-- a thread holds a strand: an execution of that strand goes on on it
abbrev pub Holds : List Line → ℕ → ℕ → Type 0
Holds past thread strand = IsTrue (list_any (is_on past strand) (stack past thread))

-- an operation that begins on this thread begins inside the execution that dispatched it, whose turn it shares
pub record IsInside (past : List Line) (thread op : ℕ) : Type 0 where
  pub dispatched : word_of past op ≡ Some Dispatch
  pub executes : stack past thread ≢ []
  pub here : caller_of past op ≡ Some (frame past thread)

-- nobody holds the strand of an operation; or only this thread does, and the operation begins inside
abbrev pub IsFree : List Line → ℕ → ℕ → Type 0
IsFree past thread op = (strand holder : ℕ) → strand_of past op ≡ Some strand → Holds past holder strand →
    (holder ≡ thread) × IsInside past thread op

-- an operation was placed before another one's entry, or by it
abbrev pub IsPlacedBefore : List Line → ℕ → ℕ → Type 0
IsPlacedBefore past first op =
    IsSomeAnd (placed_at past first) (λ place. IsSomeAnd (entry_of past op) (λ (entry : Entry). place ≤ entry.place))

-- an operation has to begin before another one. Nothing is placed before its own entry, so these are two
pub record GoesBefore (past : List Line) (first op strand : ℕ) : Type 0 where
  pub waits : Waits past first
  pub same : strand_of past first ≡ Some strand
  pub placed : IsPlacedBefore past first op

-- where nobody holds its strand, no other operation has to begin before this one
abbrev pub IsFirst : Level → List Line → ℕ → Type 0
IsFirst level past op = (strand first : ℕ) → level.strictness ≡ Plain → strand_of past op ≡ Some strand →
    ((thread : ℕ) → Holds past thread strand → ⊥) → GoesBefore past first op strand → ⊥

-- the code and size with which an operation begins are its own
pub record HasOutcome (past : List Line) (op : ℕ) (outcome : Code) (size : ℕ) : Type 0 where
  pub posted : IsPosting past op → (outcome ≡ code.Ok) × (size ≡ 0)
  pub done : IfSome (done_of past op) (λ (done : Completion). (outcome ≡ done.code) × (size ≡ done.size))
