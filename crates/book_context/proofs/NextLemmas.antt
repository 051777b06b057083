-- What may happen next to a session at rest.
use Rattle.std.proofs.Common.{◌≡◌, ℕ, Bool, true, false, not, ◌&&◌, List, [], ◌∷◌, refl, arith}
use Rattle.std.specs.List.{Any}
use Rattle.std.proofs.lemmas.Bool.{false_from_ne_true}
use Rattle.std.proofs.lemmas.List.Elements.{All-head}
use Rattle.asio_types.specs.declared.code.Code.{Code}
use Rattle.session_script.specs.Script.{ScriptModel}
use Rattle.session_script.specs.Lanes.{lane_of}
use Rattle.history_rules.specs.Executions.{IsReadyWith, MayBeginOutside}
use Rattle.history_rules.specs.Order.{is_request, is_untaken, was_taken}
use Rattle.history_rules.specs.Requests.{MayTake, MayTurn}
use Rattle.history_rules.specs.Rounds.{AllQuiet, RoundIsOpen, is_quiet, is_running}
use Rattle.history_rules.specs.State.{State, phase_at}
use Rattle.history_rules.specs.Stopping.{MayStart}
use Rattle.history_rules.specs.declared.phase.ActPhase.{ActPhase}
use Rattle.history_rules.specs.declared.phase.ActPhase.TheVariants as phase
use Rattle.execution_laws.specs.Ready.{is_ready}
use Rattle.execution_laws.specs.Order.{IsKept}
use Rattle.execution_laws.proofs.ReadyLemmas.{first_of_lane, first_request}
use Rattle.execution_laws.proofs.RestLemmas.{at_each}

pub may_begin : (script : ScriptModel) (s : State) (op : ℕ) (code : Code) (size : ℕ) (newer : List (ℕ × Code × ℕ))
    (requests : List ℕ) → IsKept script s ((op, code, size) ∷ newer) requests → RoundIsOpen script s.context →
    MayStart s.context (lane_of script op) → MayBeginOutside script s.context op code size
may_begin script s op code size newer requests kept round allowed = record {
  round = round;
  ready =
      All-head (λ item. IsReadyWith (phase_at s.context item.0) item.1 item.2) (op, code, size) newer kept.are_ready.each;
  alone = λ other same. at_each (λ act. is_running act.phase ≡ false) s.context refl kept.rest.quiet other;
  first = first_of_lane script s.context op code size newer kept.orderly.dated kept.are_ready;
  allowed = allowed;
}

pub may_take : (script : ScriptModel) (s : State) (a : ℕ) (ready : List (ℕ × Code × ℕ)) (newer : List ℕ) →
    IsKept script s ready (a ∷ newer) → MayTurn script s → MayTake script s a
may_take script s a ready newer kept turn = record {
  turn = turn;
  untaken = All-head (λ n. is_untaken s n ≡ true) a newer kept.are_untaken.each;
  first = first_request s a newer kept.orderly.dated kept.are_untaken;
}

-- what neither is ready nor runs nor waits to be taken is quiet
quiet_by : (p : ActPhase) (taken : Bool) → is_ready p ≡ false → is_running p ≡ false →
    (is_request p && not taken) ≡ false → is_quiet p taken ≡ true
quiet_by (phase.Ready code size why) taken ready running waits = absurd (cc)
quiet_by (phase.Running class progress) taken ready running waits = absurd (cc)
quiet_by phase.Requested true ready running waits = refl
quiet_by phase.Requested false ready running waits = absurd (cc)
quiet_by phase.Asked true ready running waits = refl
quiet_by phase.Asked false ready running waits = absurd (cc)
quiet_by phase.Absent taken ready running waits = refl
quiet_by phase.Inside taken ready running waits = refl
quiet_by phase.Ended taken ready running waits = refl
quiet_by phase.Dropped taken ready running waits = refl

no_member : {X : Type 0} (P : X → Type 0) → Any P [] → ⊥
no_member P (k, x, within, at, is) = absurd (omega (arith, within))

pub all_quiet : (script : ScriptModel) (s : State) → IsKept script s [] [] → AllQuiet s
all_quiet script s kept n =
    quiet_by (phase_at s.context n) (was_taken s.reactor n)
    (false_from_ne_true (is_ready (phase_at s.context n)) (λ is. no_member (λ item. item.0 ≡ n) (kept.are_ready.all n is)))
    (at_each (λ act. is_running act.phase ≡ false) s.context refl kept.rest.quiet n)
    (false_from_ne_true (is_untaken s n) (λ is. no_member (λ request. request ≡ n) (kept.are_untaken.all n is)))
