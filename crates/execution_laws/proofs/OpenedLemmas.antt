-- The calls of `open`, from the first state to rest.
use Rattle.std.proofs.Common.{◌≡◌, ◌⊎◌, ℕ, Bool, true, false, List, None, inl, inr, length, refl, sym, ap, subst, ◌∙◌, arith, ◌<◌, [], replicate, not, ◌&&◌}
use Rattle.std.proofs.lemmas.Bool.{cases_Bool, cases_lt}
use Rattle.std.proofs.lemmas.List.{get_or-replicate, get_or_past, length-replicate}
use Rattle.std.proofs.lemmas.List.Elements.{All-from_get_or, All-nil, All-replicate}
use Rattle.std.specs.List.{All}
use Rattle.asio_types.specs.Faults.{most_faults}
use Rattle.session_script.specs.Script.{ScriptModel, opening_of, parent_of}
use Rattle.session_script.specs.WellFormed.{IsWellFormed}
use Rattle.history_rules.specs.Calls.{is_open}
use Rattle.history_rules.specs.Executions.{IsReadyWith}
use Rattle.history_rules.specs.Legal.{state_of}
use Rattle.history_rules.specs.Order.{is_request, is_untaken, was_taken}
use Rattle.history_rules.specs.Rounds.{is_running}
use Rattle.history_rules.specs.State.{ReactorHalf, act_at, first_context, first_reactor, fresh, phase_at}
use Rattle.history_rules.specs.declared.phase.ActState.{ActState}
use Rattle.history_rules.specs.declared.phase.Allowance.TheVariants as allowance
use Rattle.strand_core.specs.Execution.{AnyMark, AreCalls, events_of}
use Rattle.strand_core.specs.declared.posted.Posted.{Posted}
use Rattle.execution_laws.specs.Called.{IsBackSince, is_called}
use Rattle.execution_laws.specs.Opened.{IsLegalOpening, IsOpened}
use Rattle.execution_laws.specs.Rest.{IsAtRest, waits_inside}
use Rattle.execution_laws.specs.Order.{IsKept, IsOrderly, postings_of, requests_of}
use Rattle.execution_laws.specs.Ready.{AreUntaken, IsCallPast, IsCausePast, is_ready}
use Rattle.execution_laws.proofs.KeptLemmas.{Leaves, kept_orderly, kept_ready, kept_untaken}
use Rattle.execution_laws.proofs.StateLemmas.{IsElsewhere}
use Rattle.execution_laws.proofs.BodyLemmas.{follows-all, whole_body}
use Rattle.execution_laws.proofs.CountLemmas.{later-is}
use Rattle.execution_laws.proofs.MovesLemmas.{goes-bound}
use Rattle.execution_laws.proofs.OutsideLemmas.{MovesOn}
use Rattle.execution_laws.proofs.RestLemmas.{at_each}
use Rattle.execution_laws.proofs.SettledLemmas.{settled_entered, settled_quiet}

module _ (script : ScriptModel) (told : Bool) (well : IsWellFormed script) (calls : List Posted)
    (acts : AreCalls script AnyMark (opening_of script) calls) where
  first_size : length (first_context script).acts ≡ length script.acts
  first_size = length-replicate (length script.acts) fresh

  first_act : (n : ℕ) → act_at (first_context script) n ≡ fresh
  first_act =
      at_each (λ act. act ≡ fresh) (first_context script) refl
      (All-replicate (λ act. act ≡ fresh) (length script.acts) fresh refl)

  untaken_first : (n : ℕ) → was_taken (first_reactor script told) n ≡ false
  untaken_first n = elim (cases_lt n (length script.acts)) [
    | inl within ↦ get_or-replicate (length script.acts) n false false within
    | inr beyond ↦
        get_or_past (replicate (length script.acts) false) n false
        (omega (arith, beyond, length-replicate (length script.acts) false))
  ]

  did : MovesOn script told (first_reactor script told) None (length (opening_of script)) calls (first_context script)
  did =
      whole_body script well told (first_reactor script told) AnyMark None acts 0 (first_context script)
      (follows-all script well None)
      (record { going = refl; size = first_size; there = tt; few = omega arith; at = refl })

  everywhere : (P : ActState → Type 0) → ((n : ℕ) (act : ActState) → IsBackSince script 0 n act → P act) → P fresh →
      All P did.after.acts
  everywhere P at_called unborn =
      All-from_get_or P did.after.acts fresh (λ n within. by_act n (cases_Bool (is_called n calls)))
    where
      by_act : (n : ℕ) → (is_called n calls ≡ true) ⊎ (is_called n calls ≡ false) → P (act_at did.after n)
      by_act n (inl is) = at_called n (act_at did.after n) (did.moves.back n is)
      by_act n (inr isnt) = subst P (sym (did.moves.kept n isnt tt ∙ first_act n)) unborn

  opened_rest : IsAtRest script did.after
  opened_rest = record {
    acts = did.moves.count ∙ first_size;
    quiet =
        everywhere (λ act. is_running act.phase ≡ false)
        (λ n act back. ap (λ (a : ActState). is_running a.phase) back.is ∙ settled_quiet script n) refl;
    entered =
        everywhere (λ act. waits_inside act.phase ≡ false)
        (λ n act back. ap (λ (a : ActState). waits_inside a.phase) back.is ∙ settled_entered script n) refl;
    back =
        everywhere (λ act. is_open act.call ≡ false) (λ n act back. ap (λ (a : ActState). is_open a.call) back.is) refl;
    counted =
        goes-bound script told (first_reactor script told) (first_context script) did.after calls (omega arith) did.moves.goes;
  }

  opened : IsOpened script calls did.after
  opened = record {
    rest = opened_rest;
    opening = did.at;
    called = did.moves.back;
    others = λ n isnt. did.moves.kept n isnt tt ∙ first_act n;
    stopped = did.moves.stopped;
    allowed = did.moves.allowed;
    lanes = did.moves.lanes ∙ length-replicate script.strands allowance.Free;
    closings = did.moves.closings;
    restarted = did.moves.restarted;
    dropping = did.moves.dropping;
    turn = did.moves.turn;
    events = λ room.
        did.moves.goes.count ∙ (later-is (length (events_of script calls)) 0 (omega (arith, room)) ∙ omega arith);
  }

  pub legal_opening : IsLegalOpening script told calls
  legal_opening = record { legal = did.moves.goes.legal; after = did.after; is = did.moves.goes.is; opened = opened }

  -- nothing has become of any act before
  first_orderly : IsOrderly script (record { context = first_context script; reactor = first_reactor script told })
  first_orderly = record {
    dated = record {
      calls = λ n. subst (λ (act : ActState). IsCallPast 0 act.call) (sym (first_act n)) tt;
      causes = λ n. subst (λ (act : ActState). IsCausePast 0 act.phase) (sym (first_act n)) tt;
      turn = omega arith;
    };
    uncalled = λ n is. ap (λ (act : ActState). act.phase) (first_act n);
    untaken = λ n is. untaken_first n;
    branches = λ n op branch under isnt. ap (λ (act : ActState). act.call) (first_act n);
  }

  leaves : did.after.events < most_faults → Leaves script None calls (first_context script) did.after
  leaves room = record {
    since = omega arith;
    called = did.moves.back;
    kept = did.moves.kept;
    ended = tt;
    past = did.moves.past room;
    rising = did.moves.rising room;
    turn = did.moves.turn;
  }

  none_ready : (n : ℕ) → is_ready (phase_at (first_context script) n) ≡ true → ⊥
  none_ready n is =
      let wrong : false ≡ true = sym (ap (λ (act : ActState). is_ready act.phase) (first_act n)) ∙ is in absurd (cc)

  none_untaken : (n : ℕ) →
      is_untaken (record { context = first_context script; reactor = first_reactor script told }) n ≡ true → ⊥
  none_untaken n is =
      let wrong : false ≡ true =
      sym (ap (λ (act : ActState). is_request act.phase && not (was_taken (first_reactor script told) n)) (first_act n))
      ∙ is in
      absurd (cc)

  -- what `open` called is ready, and waits to be taken, in order of its calls
  pub kept_opening : length (events_of script calls) < most_faults →
      IsKept script (state_of script told (events_of script calls)) (postings_of script calls)
      (requests_of script calls)
  kept_opening room =
      let end_room : did.after.events < most_faults = omega (arith, room, opened.events (omega (arith, room))) in
      let unmade = λ (n : ℕ) (under : parent_of script n ≡ None). ap (λ (act : ActState). act.call) (first_act n) in
      let r : ReactorHalf = first_reactor script told in
      let none : AreUntaken (record { context = first_context script; reactor = r }) [] =
      record {
        each = All-nil (λ n. is_untaken (record { context = first_context script; reactor = r }) n ≡ true);
        all = λ n is. absurd (none_untaken n is);
        oldest_first = λ i j d less within. absurd (omega (arith, within));
      } in
      subst (λ u. IsKept script u (postings_of script calls) (requests_of script calls)) (sym did.moves.goes.is) (record {
        rest = opened_rest;
        orderly =
            kept_orderly script well AnyMark None calls acts r (first_context script) did.after (leaves end_room)
            first_orderly unmade;
        are_ready =
            kept_ready script well AnyMark None calls acts r (first_context script) did.after (leaves end_room)
            first_orderly unmade []
            (All-nil (λ item. IsReadyWith (phase_at (first_context script) item.0) item.1 item.2))
            (All-nil (λ item. IsElsewhere None item.0)) (λ i j d less within. absurd (omega (arith, within)))
            (λ n ready away. absurd (none_ready n ready));
        are_untaken =
            kept_untaken script well AnyMark None calls acts r (first_context script) did.after (leaves end_room)
            first_orderly unmade [] none;
      })

pub is_legal_opening : (script : ScriptModel) (told : Bool) (calls : List Posted) → IsWellFormed script →
    AreCalls script AnyMark (opening_of script) calls → IsLegalOpening script told calls
is_legal_opening script told calls well acts = legal_opening script told well calls acts

pub is_order_begun : (script : ScriptModel) (told : Bool) (calls : List Posted) → IsWellFormed script →
    AreCalls script AnyMark (opening_of script) calls → length (events_of script calls) < most_faults →
    IsKept script (state_of script told (events_of script calls)) (postings_of script calls) (requests_of script calls)
is_order_begun script told calls well acts room = kept_opening script told well calls acts room
