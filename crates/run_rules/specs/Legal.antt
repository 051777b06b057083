-- Which runs are legal.
use Rattle.std.specs.Prelude.{◌≡◌, ℕ, List, [], ◌∷◌, reverse}
use Rattle.run_lines.specs.declared.line.Line.{Line}
use Rattle.run_rules.specs.declared.level.Level.{Level}
use Rattle.run_rules.specs.Stacks.{stack}
use Rattle.run_rules.specs.Calls.{Waits}
use Rattle.run_rules.specs.Takings.{taken}
use Rattle.run_rules.specs.MayCome.{MayCome}

-- each of these lines may come behind those before it; the newest stands first
abbrev pub IsLegalSoFar : Level → List Line → Type 0
IsLegalSoFar level [] = Unit {0}
IsLegalSoFar level (line ∷ past) = IsLegalSoFar level past × MayCome level past line

-- nothing is under way: nothing waits or executes, and nothing is claimed or locked
pub record IsWhole (past : List Line) : Type 0 where
  pub nothing_waits : (op : ℕ) → ¬ (Waits past op)
  pub nothing_executes : (thread : ℕ) → stack past thread ≡ []
  pub nothing_taken : taken past ≡ []

-- a legal run, its lines in the order of the text
pub record IsLegalRun (level : Level) (lines : List Line) : Type 0 where
  pub legal : IsLegalSoFar level (reverse lines)
  pub whole : IsWhole (reverse lines)
