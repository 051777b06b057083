-- What the turns of the reactor leave of the lists of a session.
use Rattle.std.proofs.Common.{◌≡◌, ◌≢◌, ℕ, suc, ◌+◌, ◌<◌, ◌≤◌, Bool, true, false, not, ◌&&◌, List, ◌∷◌, inl, inr, get_or, length, refl, sym, ap, subst, ◌∙◌, arith}
use Rattle.std.specs.List.{All, Any, slice_index_or, slice_set}
use Rattle.std.specs.Option.{unwrap_or}
use Rattle.std.proofs.lemmas.Bool.{and_parts, cases_eq}
use Rattle.std.proofs.lemmas.List.{get_or-set_other, get_or-set_same}
use Rattle.std.proofs.lemmas.List.Elements.{All-head, All-tail}
use Rattle.asio_types.specs.Faults.{most_faults}
use Rattle.asio_types.specs.declared.code.Code.{Code}
use Rattle.asio_types.specs.declared.event.Event.TheVariants as event
use Rattle.session_script.specs.declared.act.Act.TheVariants as act
use Rattle.session_script.specs.Script.{ScriptModel}
use Rattle.session_script.specs.WellFormed.{IsWellFormed}
use Rattle.history_rules.specs.Calls.{is_open}
use Rattle.history_rules.specs.Legal.{after_event}
use Rattle.history_rules.specs.Order.{called_at, is_request, is_untaken, was_taken}
use Rattle.history_rules.specs.Rounds.{is_running}
use Rattle.history_rules.specs.State.{ContextState, State, act_at, call_at, fresh, phase_at}
use Rattle.history_rules.specs.Untold.{gone}
use Rattle.history_rules.specs.declared.phase.ActPhase.TheVariants as phase
use Rattle.history_rules.specs.declared.phase.ActState.{ActState}
use Rattle.history_rules.specs.declared.phase.CallPhase.TheVariants as call
use Rattle.reactor_turns.proofs.TakenLemmas.{take-taken}
use Rattle.execution_laws.specs.Order.{IsKept, IsOrderly, has_begun}
use Rattle.execution_laws.specs.Ready.{AreReady, AreUntaken, IsCallPast, IsCausePast, IsDated, asked_at, is_ready, ready_at, ready_since}
use Rattle.execution_laws.specs.Rest.{waits_inside}
use Rattle.execution_laws.proofs.CountLemmas.{one_more-is}
use Rattle.execution_laws.proofs.KeptLemmas.{cause_later}
use Rattle.execution_laws.proofs.MovesLemmas.{past_later}
use Rattle.execution_laws.proofs.RestLemmas.{is_within}
use Rattle.execution_laws.proofs.RisingLemmas.{any_either}
use Rattle.book_context.specs.Turns.{IsSameOrder}

-- where each act is the same
module _ (s t : ContextState) (same : (n : ℕ) → act_at t n ≡ act_at s n) where
  same_phase : (n : ℕ) → phase_at t n ≡ phase_at s n
  same_phase n = ap (λ (act : ActState). act.phase) (same n)

  same_call : (n : ℕ) → call_at t n ≡ call_at s n
  same_call n = ap (λ (act : ActState). act.call) (same n)

  ready_same : (ready : List (ℕ × Code × ℕ)) → AreReady s ready → AreReady t ready
  ready_same ready are = record {
    each = λ k d within. ((are.each k d within).0, same_phase (get_or ready k d).0 ∙ (are.each k d within).1);
    all = λ n is. are.all n (ap is_ready (sym (same_phase n)) ∙ is);
    oldest_first = λ i j d less within.
        let before = are.oldest_first i j d less within in
        let one : ready_at t (get_or ready i d).0 ≡ ready_at s (get_or ready i d).0 =
        ap (λ (act : ActState). ready_since act.call act.phase) (same (get_or ready i d).0) in
        let two : ready_at t (get_or ready j d).0 ≡ ready_at s (get_or ready j d).0 =
        ap (λ (act : ActState). ready_since act.call act.phase) (same (get_or ready j d).0) in
        omega (arith, before, one, two);
  }

  dated_same : s.events ≤ t.events → unwrap_or t.turn 0 ≤ t.events → IsDated s → IsDated t
  dated_same less turn dated = record {
    calls = λ n.
        subst (IsCallPast t.events) (sym (same_call n)) (past_later s.events t.events (call_at s n) less (dated.calls n));
    causes = λ n.
        subst (IsCausePast t.events) (sym (same_phase n)) (cause_later s.events t.events (phase_at s n) less (dated.causes n));
    turn = turn;
  }

-- each act is the same, and none was taken before its call
orderly_same : (script : ScriptModel) (s t : State) → ((n : ℕ) → act_at t.context n ≡ act_at s.context n) →
    IsDated t.context → ((n : ℕ) → call_at s.context n ≡ call.Uncalled → was_taken t.reactor n ≡ false) →
    IsOrderly script s → IsOrderly script t
orderly_same script s t same dated untaken orderly = record {
  dated = dated;
  uncalled = λ n is.
      same_phase s.context t.context same n ∙ orderly.uncalled n (sym (same_call s.context t.context same n) ∙ is);
  untaken = λ n is. untaken n (sym (same_call s.context t.context same n) ∙ is);
  branches = λ n op branch under isnt.
      same_call s.context t.context same n
      ∙ orderly.branches n op branch under (ap has_begun (sym (same_phase s.context t.context same op)) ∙ isnt);
}

-- what changes neither an act nor what was taken
pub others_keep : (script : ScriptModel) (s t : State) (ready : List (ℕ × Code × ℕ)) (requests : List ℕ) →
    IsSameOrder s t → IsKept script s ready requests → IsKept script t ready requests
others_keep script s t ready requests order kept =
    let same = λ (n : ℕ). ap (λ (acts : List ActState). slice_index_or acts n fresh) order.acts in
    let taken = λ (n : ℕ). ap (λ (taken : List Bool). slice_index_or taken n false) order.taken in
    let untaken = λ (n : ℕ).
    ap (λ (act : ActState). is_request act.phase && not (was_taken t.reactor n)) (same n)
    ∙ ap (λ b. is_request (phase_at s.context n) && not b) (taken n) in
    record {
      rest = record {
        acts = ap length order.acts ∙ kept.rest.acts;
        quiet = subst (All (λ act. is_running act.phase ≡ false)) (sym order.acts) kept.rest.quiet;
        entered = subst (All (λ act. waits_inside act.phase ≡ false)) (sym order.acts) kept.rest.entered;
        back = subst (All (λ act. is_open act.call ≡ false)) (sym order.acts) kept.rest.back;
        counted = order.counted;
      };
      orderly =
          orderly_same script s t same (dated_same s.context t.context same order.later order.turn kept.orderly.dated)
          (λ n is. taken n ∙ kept.orderly.untaken n is) kept.orderly;
      are_ready = ready_same s.context t.context same ready kept.are_ready;
      are_untaken = record {
        each = λ k d within. untaken (get_or requests k d) ∙ kept.are_untaken.each k d within;
        all = λ n is. kept.are_untaken.all n (sym (untaken n) ∙ is);
        oldest_first = λ i j d less within.
            let before = kept.are_untaken.oldest_first i j d less within in
            let one : asked_at t.context (get_or requests i d) ≡ asked_at s.context (get_or requests i d) =
            ap (λ (act : ActState). called_at act.call) (same (get_or requests i d)) in
            let two : asked_at t.context (get_or requests j d) ≡ asked_at s.context (get_or requests j d) =
            ap (λ (act : ActState). called_at act.call) (same (get_or requests j d)) in
            omega (arith, before, one, two);
      };
    }

-- a request that still waits isn't the one that was taken
still_listed : (s t : State) (a : ℕ) (newer : List ℕ) (n : ℕ) → (n ≡ a → was_taken t.reactor n ≡ true) →
    (n ≢ a → was_taken t.reactor n ≡ was_taken s.reactor n) → AreUntaken s (a ∷ newer) →
    (is_request (phase_at s.context n) && not (was_taken t.reactor n)) ≡ true → Any (λ request. request ≡ n) newer
still_listed s t a newer n gone other were is = elim (cases_eq n a) [
  | inl same ↦
      let kept : not (was_taken t.reactor n) ≡ true =
      (and_parts (is_request (phase_at s.context n)) (not (was_taken t.reactor n)) is).1 in
      absurd (let wrong : false ≡ true = sym (ap not (gone same)) ∙ kept in cc)
  | inr differ ↦
      elim (any_either (λ request. request ≡ n) a newer
      (were.all n (ap (λ b. is_request (phase_at s.context n) && not b) (sym (other differ)) ∙ is)))
      [ inl head ↦ absurd (differ (sym head)) | inr rest ↦ rest ]
]

-- the oldest request is taken
pub taking_keeps : (script : ScriptModel) (told : Bool) (s : State) (a : ℕ) (ready : List (ℕ × Code × ℕ))
    (newer : List ℕ) → IsWellFormed script → length s.reactor.taken ≡ length script.acts →
    s.context.events + 1 < most_faults → IsKept script s ready (a ∷ newer) →
    IsKept script (after_event script told s (event.Take a)) ready newer
taking_keeps script told s a ready newer well size room kept =
    let t : State = after_event script told s (event.Take a) in
    let counted : t.context.events ≡ s.context.events + 1 = one_more-is s.context.events (omega (arith, room)) in
    let here : is_untaken s a ≡ true = All-head (λ n. is_untaken s n ≡ true) a newer kept.are_untaken.each in
    let asks : is_request (phase_at s.context a) ≡ true =
    (and_parts (is_request (phase_at s.context a)) (not (was_taken s.reactor a)) here).0 in
    let there : phase_at s.context a ≢ phase.Absent = λ absent.
    absurd (let wrong : false ≡ true = sym (ap is_request absent) ∙ asks in cc) in
    let within : a < length s.reactor.taken = omega (arith, size, kept.rest.acts, is_within s.context a there) in
    let taken : t.reactor.taken ≡ slice_set s.reactor.taken a true = take-taken script told s.reactor a well in
    let now = λ (n : ℕ). ap (λ (taken : List Bool). slice_index_or taken n false) taken in
    let other = λ (n : ℕ) (differ : n ≢ a). now n ∙ get_or-set_other s.reactor.taken a n true false differ in
    let later : All (λ n. n ≢ a) newer = λ k d below same.
    let before = kept.are_untaken.oldest_first 0 (suc k) d (omega arith) (omega (arith, below)) in
    let e = ap (asked_at s.context) same in
    absurd (omega (arith, before, e)) in
    record {
      rest =
          record {
            acts = kept.rest.acts;
            quiet = kept.rest.quiet;
            entered = kept.rest.entered;
            back = kept.rest.back;
            counted = omega (arith, counted, room);
          };
      orderly =
          orderly_same script s t (λ n. refl) (dated_same s.context t.context (λ n. refl) (omega (arith, counted))
          (omega (arith, counted)) kept.orderly.dated)
          (λ n is.
          other n (λ same. absurd (there (ap (phase_at s.context) (sym same) ∙ kept.orderly.uncalled n is)))
          ∙ kept.orderly.untaken n is) kept.orderly;
      are_ready = ready_same s.context t.context (λ n. refl) ready kept.are_ready;
      are_untaken = record {
        each = λ k d below.
            ap (λ b. is_request (phase_at s.context (get_or newer k d)) && not b) (other (get_or newer k d) (later k d below))
            ∙ All-tail (λ n. is_untaken s n ≡ true) a newer kept.are_untaken.each k d below;
        all = λ n is.
            still_listed s t a newer n
            (λ same. ap (was_taken t.reactor) same ∙ (now a ∙ get_or-set_same s.reactor.taken a true false within))
            (other n) kept.are_untaken is;
        oldest_first = λ i j d less below.
            kept.are_untaken.oldest_first (suc i) (suc j) d (omega (arith, less)) (omega (arith, below));
      };
    }
