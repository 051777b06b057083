-- What is kept of a run that is asked for the strict rules.
use Rattle.std.specs.Prelude.{◌≡◌, ◌==◌, ℕ, List, Bool, true, false, if◌then◌else◌, Option, Some, None, MatchResult, Ok, Err, Result, nat_eq}
use Rattle.std.specs.HashMap.{get}
use Rattle.run_lines.specs.declared.line.Doing.{Doing}
use Rattle.run_lines.specs.declared.line.Line.{Line}
use Rattle.run_rules.specs.declared.rule.Rule.{Rule}
use Rattle.run_rules.specs.declared.rule.Rule.TheVariants as rule
use Rattle.run_rules.specs.Breaks.{BreaksStrictly}
use Rattle.run_rules.specs.Strict.{MayDoStrictly, Ready, dropped_last, ready_after, ready_on, stopped_since}
use Rattle.run_check.specs.Judging.{Judged, is_number}
use Rattle.run_check.specs.Ready.{changed, lined_at}
use Rattle.run_check.specs.declared.ready.ReadyChange.{ReadyChange}
use Rattle.run_check.specs.declared.strict.Strict.{Strict}

-- it has followed these lines
pub record IsStrictAfter (past : List Line) (kept : Strict) : Type 0 where
  pub ready : (strand : ℕ) → lined_at kept.ready strand ≡ ready_on past strand
  pub stopped : (context : ℕ) → get nat_eq kept.stopped context ≡ stopped_since past context
  pub dropped : kept.dropped ≡ dropped_last past

-- an answer that says whether a thread may do this next as far as the strict rules have a say
abbrev pub JudgesStrictly : List Line → ℕ → Doing → Result (Unit {0}) Rule → Type 0
JudgesStrictly past thread does answer =
    MatchResult answer (λ _. MayDoStrictly past thread does) (λ rule. BreaksStrictly past thread does rule)

-- an operation is this one, where one has to be the next
abbrev pub is_next_by : Option (Option ℕ) → ℕ → Bool
is_next_by None op = true
is_next_by (Some next) op = is_number next op

-- the first of these that fails names the rule
abbrev pub begin_judged : Bool → Bool → Bool → Bool → Bool → Judged
begin_judged false next allowed alone going = Err rule.Ready
begin_judged true false allowed alone going = Err rule.Order
begin_judged true true false alone going = Err rule.Stopped
begin_judged true true true false going = Err rule.Nested
begin_judged true true true true false = Err rule.Finishing
begin_judged true true true true true = Ok tt

-- what a change on one strand makes of what is ready on any
abbrev pub changed_on : Option (ℕ × ReadyChange) → ℕ → Ready → Ready
changed_on None strand ready = ready
changed_on (Some change) strand ready = if change.0 == strand then changed change.1 ready else ready

-- what a line of a thread changes of what is ready
abbrev pub ChangesReady : List Line → ℕ → Doing → Option (ℕ × ReadyChange) → Type 0
ChangesReady past thread does change =
    (strand : ℕ) (ready : Ready) → changed_on change strand ready ≡ ready_after past strand thread does ready
