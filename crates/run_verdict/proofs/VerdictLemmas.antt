-- The verdict on lines that come one after another.
use Rattle.std.proofs.Common.{◌≡◌, ℕ, suc, ◌+◌, ◌<◌, ◌≤◌, List, [], ◌∷◌, ◌++◌, length, take, drop, get_or, reverse, ap, subst, sym, ◌∙◌, inl, inr, arith}
use Rattle.std.proofs.lemmas.List.{reverse-append, take-append-drop, take_all}
use Rattle.std.proofs.Math.Seq.{take-suc}
use Rattle.std.specs.Prelude.{IfOk, Result, Ok, Err}
use Rattle.run_lines.specs.declared.line.Line.{Line}
use Rattle.run_rules.specs.declared.level.Level.{Level}
use Rattle.run_rules.specs.declared.rule.Rule.{Rule}
use Rattle.run_rules.specs.Breaks.{BreaksRule}
use Rattle.run_rules.specs.Legal.{IsLegalSoFar}
use Rattle.run_rules.specs.MayCome.{MayCome}
use Rattle.run_rules.specs.Verdicts.{IsIllegalAt, IsVerdict}
use Rattle.run_rules.specs.declared.verdict.Verdict.{Verdict}
use Rattle.run_check.specs.declared.refusal.NoRoom.{NoRoom}
use Rattle.run_verdict.specs.declared.judge.Judge.{Judge}
use Rattle.run_verdict.specs.Judges.{HasJudged}

-- a line behind the first that may not come changes nothing
illegal_later : (level : Level) (later past : List Line) (place : ℕ) (rule : Rule) → IsIllegalAt level past place rule
    → IsIllegalAt level (later ++ past) place rule
illegal_later level [] past place rule illegal = illegal
illegal_later level (line ∷ later) past place rule illegal = inl (illegal_later level later past place rule illegal)

pub taken_next : (lines : List Line) (at : ℕ) (d : Line) → at < length lines
    → reverse (take (at + 1) lines) ≡ get_or lines at d ∷ reverse (take at lines)
taken_next lines at d within =
    let one : take (at + 1) lines ≡ take (suc at) lines =
    ap (λ (n : ℕ). take n lines) (let e : at + 1 ≡ suc at = omega arith in e) in
    ap reverse (one ∙ take-suc lines at d within) ∙ reverse-append (take at lines) (get_or lines at d ∷ [])

-- the first line that may not come, among all
pub first_illegal : (level : Level) (lines : List Line) (at : ℕ) (line : Line) (place : ℕ) (rule : Rule) → at < length lines
    → line ≡ get_or lines at line
    → IsLegalSoFar level (reverse (take at lines)) → BreaksRule level (reverse (take at lines)) line rule
    → place ≡ length (reverse (take at lines))
    → IsIllegalAt level (reverse lines) place rule
first_illegal level lines at line place rule within is legal breaks same =
    let cut : reverse lines ≡ reverse (drop (at + 1) lines) ++ reverse (take (at + 1) lines) =
    ap reverse (sym (take-append-drop (at + 1) lines)) ∙ reverse-append (take (at + 1) lines) (drop (at + 1) lines) in
    subst (λ (xs : List Line). IsIllegalAt level xs place rule)
    (sym (cut ∙ ap (λ (xs : List Line). reverse (drop (at + 1) lines) ++ xs) (taken_next lines at line within
    ∙ ap (λ (l : Line). l ∷ reverse (take at lines)) (sym is))))
    (illegal_later level (reverse (drop (at + 1) lines)) (line ∷ reverse (take at lines)) place rule (inr (legal, breaks, same)))

-- one line more is followed
pub judged_more : (level : Level) (lines : List Line) (at : ℕ) (line : Line) (old new : Judge) → at < length lines
    → line ≡ get_or lines at line
    → HasJudged level (reverse (take at lines)) old
    → ((past : List Line) → HasJudged level past old → MayCome level past line)
    → ((past : List Line) → HasJudged level past old → MayCome level past line → HasJudged level (line ∷ past) new)
    → HasJudged level (reverse (take (at + 1) lines)) new
judged_more level lines at line old new within is judged may followed =
    subst (λ (xs : List Line). HasJudged level xs new) (sym (taken_next lines at line within
    ∙ ap (λ (l : Line). l ∷ reverse (take at lines)) (sym is)))
    (followed (reverse (take at lines)) judged (may (reverse (take at lines)) judged))

-- at the end all lines were followed
pub judged_all : (level : Level) (lines : List Line) (at : ℕ) (judge : Judge) → length lines ≤ at
    → HasJudged level (reverse (take at lines)) judge
    → HasJudged level (reverse lines) judge
judged_all level lines at judge past judged = subst (λ (xs : List Line). HasJudged level (reverse xs) judge)
    (take_all at lines past) judged

-- the verdict at the level of a judge that has followed nothing
pub at_level : (level : Level) (lines : List Line) (judge : Judge) (answer : Result Verdict NoRoom) → HasJudged level [] judge
    → IfOk answer (λ verdict. (other : Level) → HasJudged other [] judge → IsVerdict other (reverse lines) verdict)
    → IfOk answer (λ verdict. IsVerdict level (reverse lines) verdict)
at_level level lines judge (Ok verdict) judged is = is level judged
at_level level lines judge (Err refused) judged is = tt
