-- What a step of the checker does.
use Rattle.std.specs.Prelude.{◌≡◌, ℕ, List, ◌∷◌, Option, Result, Ok, Err}
use Rattle.run_lines.specs.declared.line.Doing.{Doing}
use Rattle.run_lines.specs.declared.line.Doing.TheVariants as doing
use Rattle.run_lines.specs.declared.line.Line.{Line}
use Rattle.run_rules.specs.Stacks.{stack}
use Rattle.run_rules.specs.Calls.{strand_of}
use Rattle.run_rules.specs.MayCome.{MayDo}
use Rattle.run_rules.specs.Breaks.{BreaksByDoing}
use Rattle.run_check.specs.After.{IsAfter, let_in, loose}
use Rattle.run_check.specs.Stacks.{execution_of, strand_let_in}
use Rattle.run_check.specs.declared.checker.Checker.{Checker}
use Rattle.run_check.specs.declared.refusal.Refusal.{Refusal}
use Rattle.run_check.specs.declared.refusal.Refusal.TheVariants.{Broken, NoRoom}
use Rattle.run_check.specs.declared.stacks.Stacks.{Stacks}

-- the strand that goes with a line: what a begin lets in, and what an end lets go
abbrev pub GoesWith : List Line → Stacks → ℕ → Doing → Option ℕ → Type 0
GoesWith past kept thread (doing.Begin op code size) own = own ≡ let_in past (strand_of past op) (stack past thread)
GoesWith past kept thread (doing.End op) own = own ≡ strand_let_in (execution_of kept op)
GoesWith past kept thread (doing.Throw op) own = own ≡ strand_let_in (execution_of kept op)
GoesWith past kept thread _ own = Unit {0}

-- a line that may come is followed; one that may not is refused by the rule that it breaks, and changes nothing
abbrev pub Steps : List Line → Line → Checker → Checker → Result (Unit {0}) Refusal → Type 0
Steps past line old new (Ok done) = MayDo loose past line.thread line.does × IsAfter (line ∷ past) new
Steps past line old new (Err (Broken rule)) = BreaksByDoing loose past line.thread line.does rule × (new ≡ old)
Steps past line old new (Err NoRoom) = Unit {0}
