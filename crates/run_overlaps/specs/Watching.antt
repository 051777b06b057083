-- What is kept of a run while its lines are followed.
use Rattle.std.specs.Prelude.{◌≡◌, ℕ, List, ◌==◌, if◌then◌else◌, Option, Some, nat_eq}
use Rattle.std.specs.HashMap.{get}
use Rattle.std.specs.Option.{option_map}
use Rattle.run_lines.specs.declared.line.Doing.{Doing}
use Rattle.run_lines.specs.declared.line.Doing.TheVariants as doing
use Rattle.run_lines.specs.declared.line.Line.{Line}
use Rattle.run_rules.specs.Calls.{Calling, call_of}
use Rattle.run_rules.specs.Legal.{IsLegalSoFar}
use Rattle.run_rules.specs.Starting.{IsFirst}
use Rattle.run_check.specs.After.{IsAfter, plain}
use Rattle.run_overlaps.specs.declared.watch.Called.{Called}
use Rattle.run_overlaps.specs.declared.watch.Calls.{Calls}
use Rattle.run_overlaps.specs.declared.watch.Watch.{Watch}

-- where an operation was called to
abbrev pub called_by : Calling → Called
called_by call = record { context = call.context; strand = call.strand }

abbrev pub called_of : List Line → ℕ → Option Called
called_of past op = option_map called_by (call_of past op)

abbrev pub called_at : Calls → ℕ → Option Called
called_at kept op = get nat_eq kept.by_op op

-- what a line makes of what is kept of any operation
abbrev pub calls_after : Doing → ℕ → Option Called → Option Called
calls_after (doing.Call op word context strand thing) other before =
    if op == other then Some (record { context = context; strand = strand }) else before
calls_after _ other before = before

abbrev pub AreCalls : List Line → Calls → Type 0
AreCalls past kept = (op : ℕ) → called_at kept op ≡ called_of past op

-- what a line begins is the first of its strand
abbrev pub IsFirstIn : List Line → Doing → Type 0
IsFirstIn past (doing.Begin op code size) = IsFirst plain past op
IsFirstIn past _ = Unit {0}

-- these lines were followed, each of which could come
pub record IsWatch (past : List Line) (watch : Watch) : Type 0 where
  pub legal : IsLegalSoFar plain past
  pub after : IsAfter past watch.checker
  pub calls : AreCalls past watch.calls
