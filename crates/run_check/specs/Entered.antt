-- What entered a queue by the last line of its thread.
use Rattle.std.specs.Prelude.{ℕ, List, [], ◌∷◌, ◌==◌, if◌then◌else◌, Option, Some, None, nat_eq}
use Rattle.std.specs.HashMap.{get}
use Rattle.run_lines.specs.declared.line.Doing.{Doing}
use Rattle.run_lines.specs.declared.line.Doing.TheVariants as doing
use Rattle.run_lines.specs.declared.line.Line.{Line}
use Rattle.run_rules.specs.Calls.{is_posting}
use Rattle.run_check.specs.declared.entered.Entered.{Entered}

-- the operation whose handler a line submits
abbrev pub entered_by : Doing → Option ℕ
entered_by (doing.Call op word context strand thing) = if is_posting word then Some op else None
entered_by (doing.Done op code size) = Some op
entered_by _ = None

-- the operation that the last line of a thread submitted
abbrev pub entered_last : List Line → ℕ → Option ℕ
entered_last [] thread = None
entered_last (line ∷ past) thread = if line.thread == thread then entered_by line.does else entered_last past thread

abbrev pub entered_of : Entered → ℕ → Option ℕ
entered_of kept thread = get nat_eq kept.operations thread
