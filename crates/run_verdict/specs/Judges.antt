-- A judge that has followed some lines, at its level.
use Rattle.std.specs.Prelude.{◌≡◌, ◌↔◌, ◌⊎◌, ℕ, List, [], ◌∷◌, length, Bool, true, if◌then◌else◌, is_some, not, IsTrue, MatchResult, Result, Ok, Err}
use Rattle.run_lines.specs.declared.line.Doing.{Doing}
use Rattle.run_lines.specs.declared.line.Doing.TheVariants as doing
use Rattle.run_lines.specs.declared.line.Line.{Line}
use Rattle.run_rules.specs.declared.level.Level.{Level}
use Rattle.run_rules.specs.declared.level.Strictness.TheVariants.{Plain}
use Rattle.run_rules.specs.declared.rule.Rule.{Rule}
use Rattle.run_rules.specs.declared.rule.Rule.TheVariants as rule
use Rattle.run_rules.specs.Stacks.{stack}
use Rattle.run_rules.specs.Calls.{Waits}
use Rattle.run_rules.specs.Takings.{taken}
use Rattle.run_rules.specs.Breaks.{BreaksRule, BreaksStrictly}
use Rattle.run_rules.specs.Starting.{IsFirst}
use Rattle.run_rules.specs.Strict.{IsStrict, MayDoStrictly}
use Rattle.run_rules.specs.Legal.{IsLegalSoFar}
use Rattle.run_check.specs.After.{IsAfter, plain}
use Rattle.run_check.specs.Strict.{IsStrictAfter}
use Rattle.run_check.specs.declared.refusal.Refusal.{Refusal}
use Rattle.run_check.specs.declared.refusal.Refusal.TheVariants.{Broken, NoRoom}
use Rattle.run_verdict.specs.Streams.{AreStreams, pending_in}
use Rattle.run_verdict.specs.declared.ending.Owed.{Owed}
use Rattle.run_verdict.specs.declared.judge.Judge.{Judge}

-- these lines, of which the newest stands first, are legal so far, and the judge has followed them
pub record HasJudged (level : Level) (past : List Line) (judge : Judge) : Type 0 where
  pub legal : IsLegalSoFar level past
  pub same_level : judge.level ≡ level
  pub after : IsAfter past judge.checker
  pub streams : IsTrue level.streams → AreStreams past judge.streams
  pub strict : IsStrict level → IsStrictAfter past judge.strict

-- what a line begins is the first of its strand, as far as strands of Boost.Asio have a say
abbrev pub IsFirstIn : List Line → Doing → Type 0
IsFirstIn past (doing.Begin op code size) = IsFirst plain past op
IsFirstIn past _ = Unit {0}

-- what a level asks of the order of what happens
abbrev pub IsInOrder : Level → List Line → ℕ → Doing → Type 0
IsInOrder level past thread does =
    (level.strictness ≡ Plain → IsFirstIn past does) × (IsStrict level → MayDoStrictly past thread does)

-- how this rule is broken, as far as it is one of order
abbrev pub BreaksOrder : Level → List Line → ℕ → Doing → Rule → Type 0
BreaksOrder level past thread does broken =
    ((level.strictness ≡ Plain) × ¬ (IsFirstIn past does) × (broken ≡ rule.First))
    ⊎ (IsStrict level × BreaksStrictly past thread does broken)

-- an answer that says so
abbrev pub JudgesOrder : Level → List Line → ℕ → Doing → Result (Unit {0}) Rule → Type 0
JudgesOrder level past thread does answer =
    MatchResult answer (λ _. IsInOrder level past thread does) (λ broken. BreaksOrder level past thread does broken)

-- no stream has two reads, or two writes, behind a line
abbrev pub is_single : Judge → Doing → Bool
is_single judge (doing.Call op word context strand thing) =
    if judge.level.streams then not (is_some (pending_in judge.streams word thing)) else true
is_single judge _ = true

-- a line that may come is followed; one that may not is refused by the first rule that it breaks, and changes nothing
abbrev pub StepsAt : Level → List Line → Line → Judge → Judge → Result (Unit {0}) Refusal → Type 0
StepsAt level past line old new (Ok done) = HasJudged level (line ∷ past) new
StepsAt level past line old new (Err (Broken rule)) = BreaksRule level past line rule × (new ≡ old)
StepsAt level past line old new (Err NoRoom) = Unit {0}

-- how much is under way behind these lines: each number is 0 exactly where there is nothing of its kind
pub record IsOwed (past : List Line) (owed : Owed) : Type 0 where
  pub waiting : (owed.waiting ≡ 0) ↔ ((op : ℕ) → ¬ (Waits past op))
  pub executing : (owed.executing ≡ 0) ↔ ((thread : ℕ) → stack past thread ≡ [])
  pub taken : owed.taken ≡ length (taken past)
