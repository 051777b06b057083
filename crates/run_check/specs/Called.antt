-- Which operation a line calls.
use Rattle.std.specs.Prelude.{ℕ, Option, Some, None}
use Rattle.run_lines.specs.declared.line.Doing.{Doing}
use Rattle.run_lines.specs.declared.line.Doing.TheVariants as doing

-- the operation that a line calls
abbrev pub called_by : Doing → Option ℕ
called_by (doing.Call op word context strand thing) = Some op
called_by _ = None
