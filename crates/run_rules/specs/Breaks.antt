-- Which rule a line breaks: the first, in their order, that it doesn't keep.
use Rattle.std.specs.Prelude.{◌≡◌, ◌⊎◌, ℕ, List, [], false, Some, None, IsTrue}
use Rattle.run_lines.specs.declared.line.Doing.{Doing}
use Rattle.run_lines.specs.declared.line.Doing.TheVariants as doing
use Rattle.run_lines.specs.declared.line.Line.{Line}
use Rattle.run_rules.specs.declared.frame.Frame.TheVariants.{Execution}
use Rattle.run_rules.specs.declared.level.Level.{Level}
use Rattle.run_rules.specs.declared.rule.Rule.{Rule}
use Rattle.run_rules.specs.declared.rule.Rule.TheVariants as rule
use Rattle.run_rules.specs.declared.taking.Resource.TheVariants.{Thing, Lock}
use Rattle.run_rules.specs.Stacks.{frame, stack}
use Rattle.run_rules.specs.Calls.{Waits, IsPosting, done_of}
use Rattle.run_rules.specs.Takings.{has_any}
use Rattle.run_rules.specs.Starting.{IsFree, IsFirst, HasOutcome}
use Rattle.run_rules.specs.MayCome.{MayDo, last_call, is_marked, IsNew, IsSingle, IsUntouched, IsTaken}
use Rattle.run_rules.specs.Strict.{IsAllowed, IsFinishing, IsGoing, IsNext, IsReady, IsStrict}

abbrev pub BreaksByDoing : Level → List Line → ℕ → Doing → Rule → Type 0
BreaksByDoing level past thread (doing.Call op word context strand thing) rule.New = ¬ (IsNew past op)
BreaksByDoing level past thread (doing.Call op word context strand thing) rule.Single =
    IsNew past op × ¬ (IsSingle level past word thing)
BreaksByDoing level past thread (doing.Back op) rule.Returns = ¬ (last_call past (frame past thread) ≡ Some op)
BreaksByDoing level past thread (doing.Done op code size) rule.Waiting = ¬ (Waits past op)
BreaksByDoing level past thread (doing.Done op code size) rule.Asynchronous = Waits past op × IsPosting past op
BreaksByDoing level past thread (doing.Done op code size) rule.DoneOnce =
    Waits past op × ¬ (IsPosting past op) × ¬ (done_of past op ≡ None)
BreaksByDoing level past thread (doing.Begin op code size) rule.Waiting = ¬ (Waits past op)
BreaksByDoing level past thread (doing.Begin op code size) rule.Outcome = Waits past op × ¬ (HasOutcome past op code size)
BreaksByDoing level past thread (doing.Begin op code size) rule.Free =
    Waits past op × HasOutcome past op code size × ¬ (IsFree past thread op)
BreaksByDoing level past thread (doing.Begin op code size) rule.First =
    Waits past op × HasOutcome past op code size × IsFree past thread op × ¬ (IsFirst level past op)
BreaksByDoing level past thread (doing.End op) rule.Innermost = ¬ (frame past thread ≡ Execution op)
BreaksByDoing level past thread (doing.End op) rule.Clean =
    (frame past thread ≡ Execution op) × ¬ (has_any past (Execution op) ≡ false)
BreaksByDoing level past thread (doing.Throw op) rule.Innermost = ¬ (frame past thread ≡ Execution op)
BreaksByDoing level past thread (doing.Throw op) rule.Clean =
    (frame past thread ≡ Execution op) × ¬ (has_any past (Execution op) ≡ false)
BreaksByDoing level past thread (doing.Drop op) rule.Waiting = ¬ (Waits past op)
BreaksByDoing level past thread (doing.Claim thing) rule.Untouched = ¬ (IsUntouched past thread (Thing thing))
BreaksByDoing level past thread (doing.Release thing) rule.Claimed = ¬ (IsTaken past thread (Thing thing))
BreaksByDoing level past thread (doing.Lock lock) rule.Unlocked = ¬ (IsUntouched past thread (Lock lock))
BreaksByDoing level past thread (doing.Unlock lock) rule.Locked = ¬ (IsTaken past thread (Lock lock))
BreaksByDoing level past thread (doing.After mark) rule.Marked = ¬ (IsTrue (is_marked past mark))
BreaksByDoing level past thread _ _ = ⊥

-- the same of the strict rules, which are asked last
abbrev pub BreaksStrictly : List Line → ℕ → Doing → Rule → Type 0
BreaksStrictly past thread (doing.Begin op code size) rule.Ready = ¬ (IsReady past op)
BreaksStrictly past thread (doing.Begin op code size) rule.Order = IsReady past op × ¬ (IsNext past op)
BreaksStrictly past thread (doing.Begin op code size) rule.Stopped = IsReady past op × IsNext past op × ¬ (IsAllowed past op)
BreaksStrictly past thread (doing.Begin op code size) rule.Nested =
    IsReady past op × IsNext past op × IsAllowed past op × ¬ (stack past thread ≡ [])
BreaksStrictly past thread (doing.Begin op code size) rule.Finishing =
    IsReady past op × IsNext past op × IsAllowed past op × (stack past thread ≡ []) × ¬ (IsGoing past)
BreaksStrictly past thread (doing.Begin op code size) _ = ⊥
BreaksStrictly past thread (doing.Drop op) rule.Finishing = ¬ (IsFinishing past op)
BreaksStrictly past thread _ rule.Finishing = ¬ (IsGoing past)
BreaksStrictly past thread _ _ = ⊥

-- a line that keeps all other rules breaks this strict one
pub record BreaksStrictRule (level : Level) (past : List Line) (thread : ℕ) (does : Doing) (rule : Rule) : Type 0 where
  pub strict : IsStrict level
  pub may : MayDo level past thread does
  pub breaks : BreaksStrictly past thread does rule

-- this is the first rule that this line would break here
abbrev pub BreaksRule : Level → List Line → Line → Rule → Type 0
BreaksRule level past line rule =
    BreaksByDoing level past line.thread line.does rule ⊎ BreaksStrictRule level past line.thread line.does rule
