-- Which line of a run stands against the one that breaks a rule, found by a second reading.
use Rattle.std.specs.Prelude.{◌≡◌, ◌⊎◌, ◌<◌, ◌+◌, ℕ, List, ◌∷◌, ◌++◌, length, Option, Some, None, IsSomeAnd}
use Rattle.run_lines.specs.declared.line.Line.{Line}
use Rattle.run_lines.specs.Entry.{PlainEntry, line}
use Rattle.run_lines.specs.Line.{line_text}
use Rattle.run_rules.specs.declared.level.Level.{Level}
use Rattle.run_rules.specs.declared.rule.Rule.{Rule}
use Rattle.run_rules.specs.declared.rule.Rule.TheVariants as rule
use Rattle.run_rules.specs.Calls.{Waits}
use Rattle.run_rules.specs.Against.{StandsAgainst}
use Rattle.run_rules.specs.Breaks.{BreaksRule}
use Rattle.run_rules.specs.MayCome.{MayCome}
use Rattle.run_rules.specs.Strict.{IsStrict}
use Rattle.run_verdict.specs.declared.against.Against.{Against}
use Rattle.run_verdict.specs.declared.ending.Ending.{Ending}
use Rattle.run_verdict.specs.declared.ending.Ending.TheVariants as ending
use Rattle.run_verdict.specs.declared.judge.Judge.{Judge}
use Rattle.run_verdict.specs.declared.run.Next.{Next}
use Rattle.run_verdict.specs.declared.run.Next.TheVariants as next
use Rattle.run_verdict.specs.Endings.{BeginsWith, past_of}
use Rattle.run_verdict.specs.Judges.{HasJudged}

-- of these entries this line, with its number, stands against a line that breaks a rule; or none does
abbrev pub IsFound : List Line → Line → Rule → List PlainEntry → Option Against → Type 0
IsFound past broken rule entries None =
    (front : List PlainEntry) (found : Line) (back : List PlainEntry) → entries ≡ front ++ line found ∷ back
    → StandsAgainst past broken rule (past_of front) found → ⊥
IsFound past broken rule entries (Some against) =
    (front : List PlainEntry) × (back : List PlainEntry) × (entries ≡ front ++ line against.line ∷ back)
    × (against.at ≡ length front + 2) × StandsAgainst past broken rule (past_of front) against.line

-- what stands against the line that an ending names, among all lines before it
abbrev pub FindsAgainst : Level → List ℕ → Ending → Option Against → Type 0
FindsAgainst level text (ending.Illegal at rule broken) found =
    (entries : List PlainEntry) × (rest : List ℕ) × BeginsWith level text entries (line_text broken ++ 10 ∷ rest) at
    × BreaksRule level (past_of entries) broken rule × IsFound (past_of entries) broken rule entries found
FindsAgainst level text _ found = found ≡ None

-- a line that breaks a rule, behind the lines that one judge has followed, and a line before it, behind those that the other has
pub record Confronts (level : Level) (past : List Line) (broken : Line) (rule : Rule) (judge : Judge) (before : List Line)
    (found : Line) (again : Judge) : Type 0 where
  pub judged : HasJudged level past judge
  pub breaks : BreaksRule level past broken rule
  pub judged_again : HasJudged level before again
  pub may : MayCome level before found

-- a rule that asks for the strand or the context of an operation asks of one that waits, and a strict rule of strict runs
abbrev pub IsOfWaiting : Level → List Line → ℕ → Rule → Type 0
IsOfWaiting level past op rule.Free = Waits past op
IsOfWaiting level past op rule.First = Waits past op
IsOfWaiting level past op rule.Order = Waits past op × IsStrict level
IsOfWaiting level past op rule.Stopped = Waits past op × IsStrict level
IsOfWaiting level past op _ = Unit {0}

-- a line is taken exactly where it stands against the other one
abbrev pub Chooses : Type 0 → Line → ℕ → Option Against → Option Against → Type 0
Chooses stands found at old new = (stands × (new ≡ Some (record { at = at; line = found }))) ⊎ (¬ stands × (new ≡ old))

-- a judge that follows what stands next
abbrev pub FollowsNext : Next → Judge → Judge → Type 0
FollowsNext (next.Line happened) old new = (level : Level) (past : List Line) → HasJudged level past old →
    HasJudged level (happened ∷ past) new
FollowsNext next.Name old new = new ≡ old
FollowsNext _ old new = ⊥

-- a line that breaks a rule is this one, or there is none
abbrev pub BreaksAt : ℕ → Ending → Type 0
BreaksAt at (ending.Illegal other rule broken) = other ≡ at
BreaksAt at _ = Unit {0}

-- no rule is broken by a line from this one on
abbrev pub IsEarly : Ending → ℕ → Type 0
IsEarly (ending.Illegal other rule broken) at = other < at
IsEarly _ at = Unit {0}

-- what is done with what stands next
abbrev pub Looks : Line → Rule → Judge → Judge → Next → ℕ → Option Against → Option Against → Type 0
Looks broken rule judge again (next.Line found) at old new = (level : Level) (past before : List Line)
    → Confronts level past broken rule judge before found again →
    Chooses (StandsAgainst past broken rule before found) found at old new
Looks broken rule judge again _ at old new = new ≡ old

-- a second reading may end before, where it can't be read on or followed, or where it is no longer the same run
abbrev pub EndsBefore : Ending → Ending → Type 0
EndsBefore (ending.Illegal at rule broken) other = IsEarly other at
EndsBefore _ other = Unit {0}

-- the first lines of a text were read again and followed, and something holds of them
abbrev pub IsGoing : (List PlainEntry → Type 0) → Level → List ℕ → List ℕ → Option (List ℕ) → Judge → ℕ → Type 0
IsGoing P level text held None again at = ⊥
IsGoing P level text held (Some left) again at =
    (entries : List PlainEntry) × BeginsWith level text entries (held ++ left) at
    × HasJudged level (past_of entries) again × P entries

-- they were looked at
abbrev pub IsSearching : Level → List ℕ → List Line → Line → Rule → List ℕ → Option (List ℕ) → Judge → ℕ → Option Against → Type 0
IsSearching level text past broken rule held left again at found =
    IsGoing (λ (entries : List PlainEntry). IsFound past broken rule entries found) level text held left again at
