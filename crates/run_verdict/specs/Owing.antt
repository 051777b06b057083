-- Which lines of a run tell of what is under way at its end, and how they are written.
use Rattle.std.specs.Prelude.{◌≡◌, ℕ, Bool, false, List, [], ◌∷◌, ◌++◌, ◌+◌, codes, if◌then◌else◌, Option, is_some, length, reverse}
use Rattle.asio_types.specs.Sink.{Extends}
use Rattle.run_lines.specs.declared.line.Doing.{Doing}
use Rattle.run_lines.specs.declared.line.Doing.TheVariants as doing
use Rattle.run_lines.specs.declared.line.Line.{Line}
use Rattle.run_lines.specs.Entry.{PlainEntry, line, name}
use Rattle.run_lines.specs.Line.{line_text}
use Rattle.run_rules.specs.declared.taking.Resource.TheVariants.{Thing, Lock}
use Rattle.run_rules.specs.Against.{is_executing}
use Rattle.run_rules.specs.Stacks.{frame}
use Rattle.run_rules.specs.Takings.{is_taken_by}
use Rattle.run_check.specs.After.{waiter_of}
use Rattle.run_rules.specs.declared.level.Level.{Level}
use Rattle.run_verdict.specs.declared.judge.Judge.{Judge}
use Rattle.run_verdict.specs.declared.run.Next.{Next}
use Rattle.run_verdict.specs.declared.run.Next.TheVariants as next
use Rattle.run_verdict.specs.Endings.{past_of}
use Rattle.run_verdict.specs.Judges.{HasJudged}
use Rattle.run_verdict.specs.Naming.{Naming, line_names}
use Rattle.run_verdict.specs.Search.{IsGoing}
use Rattle.run_verdict.specs.Numbered.{numbered}

-- a line of a thread, behind the lines `before`, tells of something that is under way behind the lines `past`: it
-- calls an operation that waits, begins a handler that executes, or takes what isn't given back
abbrev pub is_owed : List Line → List Line → ℕ → Doing → Bool
is_owed past before thread (doing.Call op word context strand thing) = is_some (waiter_of past op)
is_owed past before thread (doing.Begin op code size) = is_executing past op
is_owed past before thread (doing.Claim thing) = is_taken_by past thread (frame before thread) (Thing thing)
is_owed past before thread (doing.Lock lock) = is_taken_by past thread (frame before thread) (Lock lock)
is_owed past before thread _ = false

-- with the names of what the line speaks of
abbrev pub owed_line : Naming → ℕ → Line → List ℕ
owed_line names at happened =
    ((numbered (codes "owed: line ") at (codes ": ") ++ line_text happened) ++ line_names names happened) ++ (10 ∷ [])

-- what is written of an entry behind these
abbrev pub owed_piece : Naming → List Line → List PlainEntry → PlainEntry → List ℕ
owed_piece names past front (line happened) =
    if is_owed past (past_of front) happened.thread happened.does then owed_line names (length front + 2) happened else []
owed_piece names past front (name kind number text) = []

-- what is written of entries, of which the newest stands first
abbrev pub owed_back : Naming → List Line → List PlainEntry → List ℕ
owed_back names past [] = []
owed_back names past (entry ∷ before) = owed_back names past before ++ owed_piece names past (reverse before) entry

abbrev pub owed_lines : Naming → List Line → List PlainEntry → List ℕ
owed_lines names past entries = owed_back names past (reverse entries)

-- what is written of what stands next
abbrev pub Tells : Naming → Judge → Judge → Next → ℕ → Option (List ℕ) → Option (List ℕ) → Type 0
Tells names judge again (next.Line happened) at before after =
    (level : Level) (past : List Line) (earlier : List Line) → HasJudged level past judge → HasJudged level earlier again
    → Extends before (if is_owed past earlier happened.thread happened.does then owed_line names at happened else []) after
Tells names judge again _ at before after = Extends before [] after

-- the first lines of a text were read again and followed, and told of
abbrev pub IsTelling : Naming → Level → List ℕ → List Line → List ℕ → Option (List ℕ) → Judge → ℕ → Option (List ℕ) →
    Option (List ℕ) → Type 0
IsTelling names level text past held left again at before after =
    IsGoing (λ (entries : List PlainEntry). Extends before (owed_lines names past entries) after) level text held left again at
