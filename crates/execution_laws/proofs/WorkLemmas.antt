-- The outstanding work of a session at rest.
use Rattle.std.proofs.Common.{◌≡◌, ℕ, ◌+◌, Bool, true, false, not, ◌&&◌, ◌||◌, List, get_or, length, refl, sym, ap, ◌∙◌, arith}
use Rattle.std.specs.Prelude.{count_by}
use Rattle.std.proofs.lemmas.Bool.{and_parts}
use Rattle.asio_types.specs.declared.code.Code.{Code}
use Rattle.session_script.specs.Script.{ScriptModel}
use Rattle.history_rules.specs.Order.{is_request, is_untaken, was_taken}
use Rattle.history_rules.specs.Rounds.{is_act_outstanding, is_held, is_outstanding, is_running, outstanding_work}
use Rattle.history_rules.specs.State.{State, phase_at}
use Rattle.history_rules.specs.declared.phase.ActPhase.{ActPhase}
use Rattle.history_rules.specs.declared.phase.ActPhase.TheVariants as phase
use Rattle.execution_laws.specs.Order.{IsKept}
use Rattle.execution_laws.specs.Ready.{asked_at, is_ready, ready_at}
use Rattle.execution_laws.specs.Rest.{waits_inside}
use Rattle.execution_laws.specs.Work.{is_pending, is_requested, pending_acts}
use Rattle.execution_laws.proofs.CountingLemmas.{counted, counted-either, counted-list, counted-range, counted-same}
use Rattle.execution_laws.proofs.RestLemmas.{at_each, is_within}
use Rattle.execution_laws.proofs.RisingLemmas.{rises-from}

-- what is outstanding is ready, waits to be taken, or is pending
outstanding_by : (p : ActPhase) (taken : Bool) → is_running p ≡ false → waits_inside p ≡ false →
    is_outstanding p taken ≡ ((is_ready p || (is_request p && not taken)) || (is_requested p && taken))
outstanding_by (phase.Running class progress) taken quiet entered = absurd (cc)
outstanding_by phase.Inside taken quiet entered = absurd (cc)
outstanding_by phase.Requested true quiet entered = refl
outstanding_by phase.Requested false quiet entered = refl
outstanding_by phase.Asked true quiet entered = refl
outstanding_by phase.Asked false quiet entered = refl
outstanding_by (phase.Ready code size why) taken quiet entered = refl
outstanding_by phase.Absent taken quiet entered = refl
outstanding_by phase.Ended taken quiet entered = refl
outstanding_by phase.Dropped taken quiet entered = refl

-- no act is two of these
ready_alone : (p : ActPhase) (taken : Bool) → is_ready p ≡ true → (is_request p && not taken) ≡ true → ⊥
ready_alone (phase.Ready code size why) taken ready waits = absurd (cc)
ready_alone phase.Requested taken ready waits = absurd (cc)
ready_alone phase.Asked taken ready waits = absurd (cc)
ready_alone p taken ready waits = absurd (cc)

pending_alone : (p : ActPhase) (taken : Bool) → (is_ready p || (is_request p && not taken)) ≡ true →
    (is_requested p && taken) ≡ true → ⊥
pending_alone phase.Requested true other pending = absurd (cc)
pending_alone phase.Requested false other pending = absurd (cc)
pending_alone p taken other pending = absurd (cc)

module _ (script : ScriptModel) (s : State) (ready : List (ℕ × Code × ℕ)) (requests : List ℕ)
    (kept : IsKept script s ready requests) where
  pub ready_count : counted (λ n. is_ready (phase_at s.context n)) (length s.context.acts) ≡ length ready
  ready_count =
      counted-list (ready_at s.context) (λ item. item.0) (length s.context.acts) (λ n. is_ready (phase_at s.context n))
      ready (rises-from (λ item. ready_at s.context item.0) ready kept.are_ready.oldest_first)
      (λ k d below. ap is_ready (kept.are_ready.each k d below).1)
      (λ k d below.
      is_within s.context (get_or ready k d).0 (λ absent.
      let wrong : true ≡ false = sym (ap is_ready (kept.are_ready.each k d below).1) ∙ ap is_ready absent in
      absurd (cc)))
      kept.are_ready.all

  pub request_count : counted (is_untaken s) (length s.context.acts) ≡ length requests
  request_count =
      counted-list (asked_at s.context) (λ n. n) (length s.context.acts) (is_untaken s) requests
      (rises-from (asked_at s.context) requests kept.are_untaken.oldest_first) kept.are_untaken.each
      (λ k d below.
      let n : ℕ = get_or requests k d in
      let asks : is_request (phase_at s.context n) ≡ true =
      (and_parts (is_request (phase_at s.context n)) (not (was_taken s.reactor n)) (kept.are_untaken.each k d below)).0 in
      is_within s.context n (λ absent. let wrong : true ≡ false = sym asks ∙ ap is_request absent in absurd (cc)))
      kept.are_untaken.all

  pub work_listed : outstanding_work s
      ≡ length ready + length requests + pending_acts s + count_by is_held s.reactor.guards
  work_listed =
      let n : ℕ = length s.context.acts in
      let quiet = at_each (λ act. is_running act.phase ≡ false) s.context refl kept.rest.quiet in
      let entered = at_each (λ act. waits_inside act.phase ≡ false) s.context refl kept.rest.entered in
      let whole = counted-range (is_act_outstanding s) n in
      let same =
      counted-same (is_act_outstanding s) (λ m. (is_ready (phase_at s.context m) || is_untaken s m) || is_pending s m) n
      (λ m. outstanding_by (phase_at s.context m) (was_taken s.reactor m) (quiet m) (entered m)) in
      let three =
      counted-either (λ m. is_ready (phase_at s.context m) || is_untaken s m) (is_pending s) n
      (λ m other pending. pending_alone (phase_at s.context m) (was_taken s.reactor m) other pending) in
      let two =
      counted-either (λ m. is_ready (phase_at s.context m)) (is_untaken s) n
      (λ m is waits. ready_alone (phase_at s.context m) (was_taken s.reactor m) is waits) in
      let pending = counted-range (is_pending s) n in
      let first = ready_count in
      let second = request_count in
      omega (arith, whole, same, three, two, pending, first, second)

pub is_work_listed : (script : ScriptModel) (s : State) (ready : List (ℕ × Code × ℕ)) (requests : List ℕ) →
    IsKept script s ready requests →
    outstanding_work s ≡ length ready + length requests + pending_acts s + count_by is_held s.reactor.guards
is_work_listed script s ready requests kept = work_listed script s ready requests kept
