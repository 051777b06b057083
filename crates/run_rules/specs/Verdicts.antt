-- What is to be said of a run.
use Rattle.std.specs.Prelude.{◌≡◌, ◌⊎◌, ℕ, List, [], ◌∷◌, length}
use Rattle.run_lines.specs.declared.line.Line.{Line}
use Rattle.run_rules.specs.declared.level.Level.{Level}
use Rattle.run_rules.specs.declared.rule.Rule.{Rule}
use Rattle.run_rules.specs.declared.verdict.Verdict.{Verdict}
use Rattle.run_rules.specs.declared.verdict.Verdict.TheVariants as verdict
use Rattle.run_rules.specs.Breaks.{BreaksRule}
use Rattle.run_rules.specs.Legal.{IsLegalSoFar, IsWhole}

-- the line at this place is the first that may not come, and it breaks this rule
abbrev pub IsIllegalAt : Level → List Line → ℕ → Rule → Type 0
IsIllegalAt level [] place rule = ⊥
IsIllegalAt level (line ∷ past) place rule =
    IsIllegalAt level past place rule ⊎ (IsLegalSoFar level past × BreaksRule level past line rule × (place ≡ length past))

-- this is to be said of these lines, of which the newest stands first
abbrev pub IsVerdict : Level → List Line → Verdict → Type 0
IsVerdict level past verdict.Legal = IsLegalSoFar level past × IsWhole past
IsVerdict level past verdict.LegalSoFar = IsLegalSoFar level past × ¬ (IsWhole past)
IsVerdict level past (verdict.Illegal place rule) = IsIllegalAt level past place rule

abbrev pub HasOneVerdict : Level → List Line → Type 0
HasOneVerdict level past = (one other : Verdict) → IsVerdict level past one → IsVerdict level past other → one ≡ other
