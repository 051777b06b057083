-- One whole execution from rest to rest.
use Rattle.std.proofs.Common.{◌≡◌, ◌≢◌, ◌⊎◌, ℕ, ◌<◌, Bool, true, false, ◌||◌, cond, List, [], ◌∷◌, Some, inl, inr, length, refl, sym, ap, subst, ◌∙◌, arith, ◌+◌, ◌≤◌, ◌++◌, suc, map}
use Rattle.std.proofs.lemmas.Bool.{cases_Bool, cases_eq}
use Rattle.std.proofs.lemmas.List.Elements.{All-from_get_or, All-tail}
use Rattle.std.specs.List.{All}
use Rattle.asio_types.specs.Code.{class_of_code}
use Rattle.asio_types.specs.Faults.{most_faults}
use Rattle.asio_types.specs.declared.code.Code.{Code}
use Rattle.asio_types.specs.declared.code.Code.TheVariants as code
use Rattle.asio_types.specs.declared.event.Event.TheVariants as event
use Rattle.session_script.specs.Script.{ScriptModel, branch_of, parent_of}
use Rattle.session_script.specs.Lanes.{is_inline, lane_of}
use Rattle.session_script.specs.WellFormed.{IsWellFormed}
use Rattle.history_rules.specs.Calls.{is_open}
use Rattle.history_rules.specs.Executions.{IsReadyWith, MayBeginOutside, begun}
use Rattle.history_rules.specs.Legal.{state_from}
use Rattle.history_rules.specs.Order.{called_at, is_request}
use Rattle.history_rules.specs.Rounds.{is_running}
use Rattle.history_rules.specs.State.{ContextState, State, act_at, call_at, counted, fresh, no_progress, phase_at, with_phase}
use Rattle.history_rules.specs.Stopping.{allowance_of, less_one, spend}
use Rattle.history_rules.specs.declared.phase.ActPhase.TheVariants as phase
use Rattle.history_rules.specs.declared.phase.ActState.{ActState}
use Rattle.strand_core.specs.Execution.{AnyMark, AreCalls, IsWholeExecution, events_of, execution_of}
use Rattle.strand_core.specs.declared.posted.Posted.{Posted}
use Rattle.strand_core.specs.declared.posted.Posted.TheVariants as posted
use Rattle.execution_laws.specs.Called.{IsBackSince, is_called}
use Rattle.execution_laws.specs.Executed.{IsExecuted, IsLegalExecution}
use Rattle.execution_laws.specs.Rest.{IsAtRest, waits_inside}
use Rattle.execution_laws.specs.Order.{IsKept, has_begun, postings_of, requests_of}
use Rattle.execution_laws.specs.Ready.{AreReady, AreUntaken, IsCallPast, asked_at, is_ready, ready_at}
use Rattle.execution_laws.proofs.ActsCalledLemmas.{acts_called, all_called, called_as-execution}
use Rattle.execution_laws.proofs.KeptLemmas.{Leaves, kept_orderly, kept_ready, kept_untaken}
use Rattle.execution_laws.proofs.RisingLemmas.{any_either, rises-same}
use Rattle.execution_laws.proofs.BodyLemmas.{follows-all, whole_body}
use Rattle.execution_laws.proofs.CalledLemmas.{called-execution, stopping-execution}
use Rattle.execution_laws.proofs.CountLemmas.{later-is, one_more-from}
use Rattle.execution_laws.proofs.EventLemmas.{Goes, goes-by}
use Rattle.execution_laws.proofs.InsideLemmas.{goes-execution}
use Rattle.execution_laws.proofs.MovesLemmas.{back_still, goes-bound, goes-from, past_later}
use Rattle.execution_laws.proofs.OutsideLemmas.{MovesOn}
use Rattle.execution_laws.proofs.RestLemmas.{at_each, is_within}
use Rattle.execution_laws.proofs.SettledLemmas.{settled_entered, settled_quiet}
use Rattle.execution_laws.proofs.StateLemmas.{act_at-other, act_at-same, length-acts, length-lanes}

module _ (script : ScriptModel) (told : Bool) (s : State) (op : ℕ) (given : Code) (size : ℕ)
    (well : IsWellFormed script) (rest : IsAtRest script s.context) (own : is_inline script op ≡ false)
    (may : MayBeginOutside script s.context op given size) (position mark : ℕ) (body : List Posted)
    (acts : AreCalls script AnyMark (branch_of script op (class_of_code given)) body) where
  within : op < length s.context.acts
  within =
      is_within s.context op (λ absent.
      let ready : phase.Ready given size may.ready.0 ≡ phase.Absent = sym may.ready.1 ∙ absent in absurd (cc))

  abbrev running : ContextState
  running = counted (spend (lane_of script op) (begun s.context op given))

  goes-begin : Goes script told s.reactor s.context (posted.Begin op given size position ∷ []) running
  goes-begin =
      goes-by script told s.reactor s.context running (posted.Begin op given size position ∷ [])
      (event.Begin op given size ∷ []) refl (inl may, tt)
      (ap (λ b.
      record {
        context =
            counted (cond b (begun s.context op given) (spend (lane_of script op) (begun s.context op given)));
        reactor = s.reactor;
      }) own) refl

  abbrev begun_act : ActState
  begun_act = record (act_at s.context op) { phase = phase.Running (class_of_code given) no_progress }

  running_act : act_at running op ≡ begun_act
  running_act = act_at-same s.context op begun_act within

  running_size : length running.acts ≡ length s.context.acts
  running_size = length-acts s.context op begun_act

  did : MovesOn script told s.reactor (Some (op, class_of_code given))
      (length (branch_of script op (class_of_code given))) body running
  did =
      whole_body script well told s.reactor AnyMark (Some (op, class_of_code given)) acts 0 running
      (follows-all script well (Some (op, class_of_code given))) (record {
        going = tt;
        size = running_size ∙ rest.acts;
        there = omega (arith, within, running_size);
        few =
            goes-bound script told s.reactor s.context running (posted.Begin op given size position ∷ []) rest.counted
            goes-begin;
        at = ap (λ (act : ActState). act.phase) running_act;
      })

  abbrev over : ContextState
  over = counted (with_phase did.after op phase.Ended)

  abbrev whole : List Posted
  whole = execution_of op given size position mark body

  goes : Goes script told s.reactor s.context whole over
  goes =
      goes-execution script told s.reactor op given size position mark body s.context running did.after goes-begin
      did.moves.goes did.at

  over_size : length over.acts ≡ length s.context.acts
  over_size =
      length-acts did.after op (record (act_at did.after op) { phase = phase.Ended }) ∙ (did.moves.count ∙ running_size)

  ended : act_at over op ≡ record (act_at s.context op) { phase = phase.Ended }
  ended =
      act_at-same did.after op (record (act_at did.after op) { phase = phase.Ended })
      (omega (arith, within, did.moves.count, running_size))
      ∙ ap (λ c. record { call = c; phase = phase.Ended }) (did.moves.caller ∙ ap (λ (act : ActState). act.call) running_act)

  called_is : (n : ℕ) → is_called n whole ≡ is_called n body
  called_is n = called-execution n op given size position mark body

  over_other : (n : ℕ) → n ≢ op → act_at over n ≡ act_at did.after n
  over_other n other = act_at-other did.after op (record (act_at did.after op) { phase = phase.Ended }) n other

  called : (n : ℕ) → is_called n whole ≡ true → IsBackSince script s.context.events n (act_at over n)
  called n is =
      let in_body : is_called n body ≡ true = sym (called_is n) ∙ is in
      let other : n ≢ op = λ same. absurd (omega (arith, same, did.moves.own n in_body)) in
      back_still script running.events s.context.events n (act_at did.after n) (act_at over n)
      (goes-from script told s.reactor s.context running (posted.Begin op given size position ∷ []) rest.counted
      goes-begin) (over_other n other) (did.moves.back n in_body)

  others : (n : ℕ) → is_called n whole ≡ false → n ≢ op → act_at over n ≡ act_at s.context n
  others n isnt other =
      over_other n other
      ∙ (did.moves.kept n (sym (called_is n) ∙ isnt) other ∙ act_at-other s.context op begun_act n other)

  -- what holds of the operation that ended, of acts that were called and of acts that stayed holds of all
  everywhere : (P : ActState → Type 0) → P (record (act_at s.context op) { phase = phase.Ended }) →
      ((n : ℕ) (act : ActState) → IsBackSince script s.context.events n act → P act) → P fresh → All P s.context.acts →
      All P over.acts
  everywhere P at_op at_called unborn all =
      All-from_get_or P over.acts fresh (λ n within. by_act n (cases_eq n op) (cases_Bool (is_called n whole)))
    where
      by_act : (n : ℕ) → (n ≡ op) ⊎ (n ≢ op) → (is_called n whole ≡ true) ⊎ (is_called n whole ≡ false) →
          P (act_at over n)
      by_act n (inl same) either = subst (λ n. P (act_at over n)) (sym same) (subst P (sym ended) at_op)
      by_act n (inr other) (inl is) = at_called n (act_at over n) (called n is)
      by_act n (inr other) (inr isnt) = subst P (sym (others n isnt other)) (at_each P s.context unborn all n)

  over_rest : IsAtRest script over
  over_rest = record {
    acts = over_size ∙ rest.acts;
    quiet =
        everywhere (λ act. is_running act.phase ≡ false) refl
        (λ n act back. ap (λ (a : ActState). is_running a.phase) back.is ∙ settled_quiet script n) refl rest.quiet;
    entered =
        everywhere (λ act. waits_inside act.phase ≡ false) refl
        (λ n act back. ap (λ (a : ActState). waits_inside a.phase) back.is ∙ settled_entered script n) refl
        rest.entered;
    back =
        everywhere (λ act. is_open act.call ≡ false)
        (at_each (λ act. is_open act.call ≡ false) s.context refl rest.back op)
        (λ n act back. ap (λ (a : ActState). is_open a.call) back.is) refl rest.back;
    counted = goes-bound script told s.reactor s.context over whole rest.counted goes;
  }

  executed : IsExecuted script op whole s.context over
  executed = record {
    rest = over_rest;
    ended = ended;
    called = called;
    others = others;
    opening = did.moves.opening tt;
    stopped =
        did.moves.stopped
        ∙ ap (λ b. s.context.stopped || b) (sym (stopping-execution script op given size position mark body));
    allowed = λ never. did.moves.allowed (sym (stopping-execution script op given size position mark body) ∙ never);
    lanes =
        did.moves.lanes
        ∙ length-lanes (lane_of script op) (less_one (allowance_of s.context.allowances (lane_of script op)))
        s.context.allowances;
    closings = did.moves.closings;
    restarted = did.moves.restarted;
    dropping = did.moves.dropping;
    turn = did.moves.turn;
    events = λ room. goes.count ∙ later-is (length (events_of script whole)) s.context.events room;
  }

  pub legal_execution : IsLegalExecution script told s op (execution_of op given size position mark body)
  legal_execution = record { legal = goes.legal; after = over; is = goes.is; executed = executed }

  after_before : did.after.events ≤ over.events
  after_before =
      one_more-from did.after.events (goes-bound script told s.reactor running did.after body
      (goes-bound script told s.reactor s.context running (posted.Begin op given size position ∷ []) rest.counted
      goes-begin) did.moves.goes)

  -- the same by the calls of its body, where counts haven't come to their end
  leaves : over.events < most_faults → Leaves script (Some (op, class_of_code given)) body s.context over
  leaves room = record {
    since = goes-from script told s.reactor s.context over whole rest.counted goes;
    called = λ n is. called n (called_is n ∙ is);
    kept = λ n isnt other. others n (called_is n ∙ isnt) other;
    ended = (ended, ap is_ready may.ready.1);
    past = λ n is.
        subst (IsCallPast over.events) (sym (ap (λ (act : ActState). act.call) (over_other n (not_op n is))))
        (past_later did.after.events over.events (call_at did.after n) after_before
        (did.moves.past (omega (arith, room, after_before)) n is));
    rising = rises-same (asked_at did.after) (asked_at over) (acts_called body)
        (all_called (λ n. asked_at over n ≡ asked_at did.after n) body
        (λ n is. ap (λ (act : ActState). called_at act.call) (over_other n (not_op n is))))
        (did.moves.rising (omega (arith, room, after_before)));
    turn = did.moves.turn;
  }
    where
      not_op : (n : ℕ) → is_called n body ≡ true → n ≢ op
      not_op n is = λ same. absurd (omega (arith, same, did.moves.own n is))

  -- the others of an orderly session stay in order, with what was called behind them
  pub kept_execution : (newer : List (ℕ × Code × ℕ)) (requests : List ℕ) →
      s.context.events + length (events_of script (execution_of op given size position mark body)) < most_faults →
      IsKept script s ((op, given, size) ∷ newer) requests →
      IsKept script (state_from script told s (events_of script (execution_of op given size position mark body)))
      (newer ++ postings_of script (execution_of op given size position mark body))
      (requests ++ requests_of script (execution_of op given size position mark body))
  kept_execution newer requests room kept =
      let end_room : over.events < most_faults = omega (arith, room, executed.events (omega (arith, room))) in
      let unmade = λ (n : ℕ) (under : parent_of script n ≡ Some (op, class_of_code given)).
      kept.orderly.branches n op (class_of_code given) under (ap has_begun may.ready.1) in
      let body_leaves : Leaves script (Some (op, class_of_code given)) body s.context over = leaves end_room in
      let postings : postings_of script whole ≡ postings_of script body =
      ap (map (λ n. (n, code.Ok, 0))) (called_as-execution is_ready script op given size position mark body) in
      let asked : requests_of script whole ≡ requests_of script body =
      called_as-execution is_request script op given size position mark body in
      let ready_now : AreReady over (newer ++ postings_of script body) =
      kept_ready script well AnyMark (Some (op, class_of_code given)) body acts s.reactor s.context over body_leaves
      kept.orderly unmade newer
      (All-tail (λ item. IsReadyWith (phase_at s.context item.0) item.1 item.2) (op, given, size) newer kept.are_ready.each)
      (λ k d within same.
      let less = kept.are_ready.oldest_first 0 (suc k) d (omega arith) (omega (arith, within)) in
      let here = ap (ready_at s.context) same in
      absurd (omega (arith, less, here)))
      (λ i j d less within. kept.are_ready.oldest_first (suc i) (suc j) d (omega (arith, less)) (omega (arith, within)))
      (λ n ready other.
      elim (any_either (λ item. item.0 ≡ n) (op, given, size) newer (kept.are_ready.all n ready))
      [ inl is ↦ absurd (other (sym is)) | inr later ↦ later ]) in
      let untaken_now : AreUntaken (record { context = over; reactor = s.reactor }) (requests ++ requests_of script body) =
      kept_untaken script well AnyMark (Some (op, class_of_code given)) body acts s.reactor s.context over body_leaves
      kept.orderly unmade requests kept.are_untaken in
      subst (λ u. IsKept script u (newer ++ postings_of script whole) (requests ++ requests_of script whole))
      (sym goes.is) (record {
        rest = over_rest;
        orderly =
            kept_orderly script well AnyMark (Some (op, class_of_code given)) body acts s.reactor s.context over
            body_leaves kept.orderly unmade;
        are_ready = subst (λ list. AreReady over (newer ++ list)) (sym postings) ready_now;
        are_untaken =
            subst (λ list. AreUntaken (record { context = over; reactor = s.reactor }) (requests ++ list)) (sym asked)
            untaken_now;
      })

-- an operation that may begin outside a call executes legally
pub is_legal_execution : (script : ScriptModel) (told : Bool) (s : State) (op : ℕ) (given : Code) (size : ℕ)
    (calls : List Posted) → IsWellFormed script → IsAtRest script s.context → is_inline script op ≡ false →
    MayBeginOutside script s.context op given size → IsWholeExecution script AnyMark op given size calls →
    IsLegalExecution script told s op calls
is_legal_execution script told s op given size calls well rest own may is_whole =
    subst (IsLegalExecution script told s op) (sym is_whole.is) (legal_execution script told s op given size well rest
    own may is_whole.begun is_whole.mark is_whole.body is_whole.acts)

-- and keeps the order of what is oldest first
pub is_order_kept : (script : ScriptModel) (told : Bool) (s : State) (op : ℕ) (given : Code) (size : ℕ)
    (calls : List Posted) (newer : List (ℕ × Code × ℕ)) (requests : List ℕ) → IsWellFormed script →
    IsKept script s ((op, given, size) ∷ newer) requests → is_inline script op ≡ false →
    MayBeginOutside script s.context op given size → IsWholeExecution script AnyMark op given size calls →
    s.context.events + length (events_of script calls) < most_faults →
    IsKept script (state_from script told s (events_of script calls)) (newer ++ postings_of script calls)
    (requests ++ requests_of script calls)
is_order_kept script told s op given size calls newer requests well kept own may is_whole =
    subst (λ calls. s.context.events + length (events_of script calls) < most_faults →
    IsKept script (state_from script told s (events_of script calls)) (newer ++ postings_of script calls) (requests ++ requests_of script calls)) (sym is_whole.is)
    (λ room.
    kept_execution script told s op given size well kept.rest own may is_whole.begun is_whole.mark is_whole.body
    is_whole.acts newer requests room kept)
