-- In a strict run nothing executes inside another.
use Rattle.std.proofs.Common.{◌≤◌, ℕ, List, [], ◌∷◌, arith, length, subst, suc}
use Rattle.std.proofs.lemmas.Bool.{cond_both, eqb-true}
use Rattle.std.specs.Prelude.{◌==◌}
use Rattle.run_lines.specs.declared.line.Doing.{Doing}
use Rattle.run_lines.specs.declared.line.Doing.TheVariants as doing
use Rattle.run_lines.specs.declared.line.Line.{Line}
use Rattle.run_rules.specs.declared.level.Level.{Level}
use Rattle.run_rules.specs.Stacks.{outer, stack, stack_after}
use Rattle.run_rules.specs.Strict.{IsStrict, MayDoStrictly}
use Rattle.run_rules.specs.Legal.{IsLegalSoFar}

length-outer : (ops : List ℕ) → length ops ≤ 1 → length (outer ops) ≤ 1
length-outer [] few = few
length-outer (op ∷ ops) few = let more : suc (length ops) ≤ 1 = few in omega arith

few_after : (past : List Line) (thread : ℕ) (does : Doing) → MayDoStrictly past thread does → length (stack past thread) ≤ 1
    → length (stack_after does (stack past thread)) ≤ 1
few_after past thread (doing.Begin op code size) may few = rw may.alone (omega arith)
few_after past thread (doing.End op) may few = length-outer (stack past thread) few
few_after past thread (doing.Throw op) may few = length-outer (stack past thread) few
few_after past thread _ may few = few

pub nest_nothing : (level : Level) (past : List Line) → IsStrict level → IsLegalSoFar level past → (thread : ℕ)
    → length (stack past thread) ≤ 1
nest_nothing level [] strict legal thread = omega arith
nest_nothing level (line ∷ past) strict legal thread =
    cond_both (line.thread == thread) (stack_after line.does (stack past thread)) (stack past thread)
    (λ (ops : List ℕ). length ops ≤ 1)
    (λ here. subst (λ (n : ℕ). length (stack_after line.does (stack past n)) ≤ 1) (eqb-true line.thread thread here)
    (few_after past line.thread line.does (legal.1.strict strict) (nest_nothing level past strict legal.0 line.thread)))
    (λ elsewhere. nest_nothing level past strict legal.0 thread)
