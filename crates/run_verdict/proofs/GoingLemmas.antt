-- A second reading: one line more is read and followed.
use Rattle.std.proofs.Common.{◌≡◌, ℕ, ◌+◌, List, [], ◌∷◌, ◌++◌, length, Option, Some, None, subst, sym}
use Rattle.run_lines.specs.declared.line.Line.{Line}
use Rattle.run_lines.specs.Entry.{PlainEntry, entry_text, line}
use Rattle.run_lines.specs.Line.{line_text}
use Rattle.run_lines.specs.Run.{lines_of}
use Rattle.run_rules.specs.declared.level.Level.{Level}
use Rattle.run_rules.specs.MayCome.{MayCome}
use Rattle.run_verdict.specs.declared.judge.Judge.{Judge}
use Rattle.run_verdict.specs.declared.run.Next.{Next}
use Rattle.run_verdict.specs.declared.run.Next.TheVariants as next
use Rattle.run_verdict.specs.Endings.{BeginsWith, IsReading, NextGives, past_of}
use Rattle.run_verdict.specs.Judges.{HasJudged}
use Rattle.run_verdict.specs.Search.{FollowsNext, IsGoing}
use Rattle.run_verdict.proofs.ReadLemmas.{begins_at, begins_more, past_line, past_name}

-- what holds of the lines so far leads to what holds with this one
abbrev pub Moves : (List PlainEntry → Type 0) → (List PlainEntry → Type 0) → Level → Judge → ℕ → Next → Type 0
Moves P Q level again at (next.Line found) =
    (entries : List PlainEntry) → HasJudged level (past_of entries) again → MayCome level (past_of entries) found
    → at ≡ length entries + 2 → P entries → Q (entries ++ line found ∷ [])
Moves P Q level again at next.Name =
    (entries : List PlainEntry) (entry : PlainEntry) → lines_of (entry ∷ []) ≡ [] → P entries → Q (entries ++ entry ∷ [])
Moves P Q level again at _ = Unit {0}

pub going_step : (P Q : List PlainEntry → Type 0) (level : Level) (text held : List ℕ) (left : Option (List ℕ))
    (held_after : List ℕ) (left_after : Option (List ℕ)) (again after : Judge) (at : ℕ) (next : Next)
    → IsGoing P level text held left again at → NextGives next held left held_after left_after → FollowsNext next again after
    → Moves P Q level again at next → IsGoing Q level text held_after left_after after (at + 1)
going_step P Q level text held None held_after left_after again after at next going gives follows moves = absurd going
going_step P Q level text held (Some left) held_after None again after at (next.Line found) going gives follows moves =
    absurd gives.1
going_step P Q level text held (Some left) held_after (Some left_after) again after at (next.Line found) going gives follows
    moves =
    let entries : List PlainEntry = going.0 in
    let begins : BeginsWith level text entries (held ++ left) at = going.1 in
    let followed : HasJudged level (found ∷ past_of entries) after = follows level (past_of entries) going.2 in
    let more : HasJudged level (past_of (entries ++ line found ∷ [])) after =
    subst (λ (xs : List Line). HasJudged level xs after) (sym (past_line entries found)) followed in (
      entries ++ line found ∷ [],
      begins_more level text entries (line found) (held_after ++ left_after) at
          (begins_at level text entries (held ++ left) (line_text found ++ 10 ∷ (held_after ++ left_after)) at begins gives.1)
          gives.0 more.legal,
      more,
      moves entries going.2 followed.legal.1 begins.number going.3,
    )
going_step P Q level text held (Some left) held_after None again after at next.Name going gives follows moves = absurd gives.3
going_step P Q level text held (Some left) held_after (Some left_after) again after at next.Name going gives follows moves =
    let entries : List PlainEntry = going.0 in
    let entry : PlainEntry = gives.0 in
    let begins : BeginsWith level text entries (held ++ left) at = going.1 in
    let same : past_of entries ≡ past_of (entries ++ entry ∷ []) = sym (past_name entries entry gives.2) in
    let more : HasJudged level (past_of (entries ++ entry ∷ [])) after =
    subst (λ (j : Judge). HasJudged level (past_of (entries ++ entry ∷ [])) j) (sym follows)
    (subst (λ (xs : List Line). HasJudged level xs again) same going.2) in (
      entries ++ entry ∷ [],
      begins_more level text entries entry (held_after ++ left_after) at
          (begins_at level text entries (held ++ left) (entry_text entry ++ 10 ∷ (held_after ++ left_after)) at begins gives.3)
          gives.1 more.legal,
      more,
      moves entries entry gives.2 going.3,
    )
going_step P Q level text held (Some left) held_after left_after again after at next.End going gives follows moves =
    absurd follows
going_step P Q level text held (Some left) held_after left_after again after at (next.Bad bad) going gives follows moves =
    absurd follows
going_step P Q level text held (Some left) held_after left_after again after at (next.Fault why) going gives follows moves =
    absurd follows

pub going_reads : (P : List PlainEntry → Type 0) (level : Level) (text held : List ℕ) (left : Option (List ℕ)) (again : Judge)
    (at : ℕ) → IsGoing P level text held left again at → IsReading level text held left again at
going_reads P level text held None again at going = absurd going
going_reads P level text held (Some left) again at going = (going.0, going.1, going.2)

pub going_begins : (P : List PlainEntry → Type 0) (level : Level) (text held : List ℕ) (left : Option (List ℕ)) (again : Judge)
    → ((entries : List PlainEntry) → 2 ≡ length entries + 2 → P entries) → IsReading level text held left again 2
    → IsGoing P level text held left again 2
going_begins P level text held None again none reading = absurd reading
going_begins P level text held (Some left) again none reading =
    (reading.0, reading.1, reading.2, none reading.0 reading.1.number)
