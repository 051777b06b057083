-- What a line does, asked in some more ways.
use Rattle.std.specs.Prelude.{ℕ, Bool, true, false, ◌==◌, Option, Some, None}
use Rattle.run_rules.specs.Against.{calls}
use Rattle.run_lines.specs.declared.line.Doing.{Doing}
use Rattle.run_lines.specs.declared.line.Doing.TheVariants as doing

-- the operation whose handler a line begins
abbrev pub begun_by : Doing → Option ℕ
begun_by (doing.Begin op code size) = Some op
begun_by _ = None

-- calls this operation, if there is one
abbrev pub calls_some : Doing → Option ℕ → Bool
calls_some does None = false
calls_some does (Some op) = calls does op

-- passes a test, if there is one
abbrev pub of_some : (ℕ → Bool) → Option ℕ → Bool
of_some test None = false
of_some test (Some op) = test op

abbrev pub is_drop : Doing → Bool
is_drop (doing.Drop op) = true
is_drop _ = false

-- both are one number
abbrev pub both_same : Option ℕ → Option ℕ → Bool
both_same (Some number) (Some other) = number == other
both_same _ _ = false
