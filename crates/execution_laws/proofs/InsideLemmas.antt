-- One act of a body that executes inside its call.
use Rattle.std.proofs.Common.{◌≡◌, ◌≢◌, ◌⊎◌, ℕ, ◌+◌, ◌<◌, ◌≤◌, Bool, true, false, ◌||◌, cond, List, [], ◌∷◌, ◌++◌, Some, None, inl, inr, length, refl, sym, ap, subst, ◌∙◌, arith}
use Rattle.std.specs.Prelude.{◌==◌}
use Rattle.std.proofs.Math.Bool.{or-false}
use Rattle.std.proofs.lemmas.List.{append-nil}
use Rattle.std.proofs.lemmas.Bool.{eq-eqb, false_from_ne_true}
use Rattle.asio_types.specs.Code.{class_of_code}
use Rattle.asio_types.specs.Faults.{most_faults}
use Rattle.asio_types.specs.declared.code.Class.{Class}
use Rattle.asio_types.specs.declared.code.Class.TheVariants as class
use Rattle.asio_types.specs.declared.code.Code.{Code}
use Rattle.asio_types.specs.declared.code.Code.TheVariants as code
use Rattle.asio_types.specs.declared.event.Event.TheVariants as event
use Rattle.session_script.specs.Script.{Place, ScriptModel, branch_of, stops}
use Rattle.session_script.specs.Lanes.{is_inline, lane_of}
use Rattle.history_rules.specs.Calls.{accepted, is_call_done, is_made}
use Rattle.history_rules.specs.Executions.{MayEnd, begun, has_finished}
use Rattle.history_rules.specs.Order.{called_at}
use Rattle.history_rules.specs.State.{Allowances, ContextState, ReactorHalf, act_at, call_at, counted, no_progress, with_phase}
use Rattle.history_rules.specs.Stopping.{spend}
use Rattle.history_rules.specs.declared.phase.ActPhase.TheVariants as phase
use Rattle.history_rules.specs.declared.phase.ActState.{ActState}
use Rattle.history_rules.specs.declared.phase.CallPhase.TheVariants as call
use Rattle.history_rules.specs.declared.phase.Progress.{Progress}
use Rattle.strand_core.specs.Execution.{execution_of}
use Rattle.strand_core.specs.declared.posted.Posted.{Posted}
use Rattle.strand_core.specs.declared.posted.Posted.TheVariants as posted
use Rattle.execution_laws.specs.Called.{IsBackSince, are_stopping, is_called}
use Rattle.execution_laws.specs.Ready.{IsCallPast, asked_at}
use Rattle.execution_laws.proofs.ActsCalledLemmas.{acts-append, acts-execution, acts_called, all_called}
use Rattle.execution_laws.proofs.CountLemmas.{one_more-from, one_more-rose}
use Rattle.execution_laws.proofs.CallLemmas.{IsNext, Opens, Returns, opens, returns}
use Rattle.execution_laws.proofs.CalledLemmas.{called-append, called-execution, none_called, one_called, stopping-append, stopping-execution}
use Rattle.execution_laws.proofs.EventLemmas.{Goes, goes-both, goes-by}
use Rattle.execution_laws.proofs.MovesLemmas.{Moves, asked_since, back_still, goes-bound, goes-from, past_later}
use Rattle.execution_laws.proofs.RisingLemmas.{Rises, rises-same}
use Rattle.execution_laws.proofs.OutsideLemmas.{MovesOn, there-still}
use Rattle.execution_laws.proofs.ScriptLemmas.{accepted-inline, inline_no_stop}
use Rattle.execution_laws.proofs.StateLemmas.{IsAt, IsBehind, IsCallKept, IsElsewhere, IsSameAt, IsThere, Touches, act_at-same, at-same, both, elsewhere, kept-both, same-set, touches-set}

pub behind-more : (place : Place) (a n : ℕ) → IsBehind place a → a < n → IsBehind place n
behind-more None a n behind more = tt
behind-more (Some at) a n behind more = omega (arith, behind, more)

kept-same : (place : Place) (s t : ContextState) → IsSameAt place s t → IsCallKept place s t
kept-same None s t same = tt
kept-same (Some at) s t same = ap (λ (act : ActState). act.call) same

-- what such a call has done
done_inside : (called : ℕ) (act : ActState) (inline : Bool) → inline ≡ true →
    act ≡ record { call = call.Open called; phase = phase.Ended } → is_call_done false inline act ≡ true
done_inside called act inline is there = rw is (rw there refl)

module _ (script : ScriptModel) (told : Bool) (r : ReactorHalf) where
  -- what a body does leaves an outer body where it was
  same-inner : (place : Place) (a : ℕ) (class : Class) (body : List Posted) (s t : ContextState) → IsBehind place a →
      Moves script told r (Some (a, class)) body s t → IsSameAt place s t
  same-inner None a class body s t behind inner = inner.opening tt
  same-inner (Some at) a class body s t behind inner =
      inner.kept at.0
      (false_from_ne_true (is_called at.0 body) (λ is. absurd (omega (arith, behind, inner.own at.0 is))))
      (λ same. absurd (omega (arith, behind, same)))

  -- a body whose calls are all back ends
  module _ (op : ℕ) (code : Code) (size position mark : ℕ) (body : List Posted) (s t u : ContextState) where
    abbrev pub ended : ContextState
    ended = counted (with_phase u op phase.Ended)

    may_end : IsAt u (Some (op, class_of_code code)) (both (length (branch_of script op (class_of_code code)))) →
        MayEnd script u op
    may_end at =
        let all : ℕ = length (branch_of script op (class_of_code code)) in
        let same : (all == all) ≡ true = eq-eqb all all refl in
        ap (has_finished script op) at ∙ rw same refl

    pub goes-execution : Goes script told r s (posted.Begin op code size position ∷ []) t →
        Goes script told r t body u →
        IsAt u (Some (op, class_of_code code)) (both (length (branch_of script op (class_of_code code)))) →
        Goes script told r s (execution_of op code size position mark body) ended
    goes-execution begins goes at =
        goes-both script told r s t ended (posted.Begin op code size position ∷ [])
        (body ++ posted.End op (record { mark = mark; class = class_of_code code; begun = position }) ∷ []) begins
        (goes-both script told r t u ended body
        (posted.End op (record { mark = mark; class = class_of_code code; begun = position }) ∷ []) goes
        (goes-by script told r u ended
        (posted.End op (record { mark = mark; class = class_of_code code; begun = position }) ∷ [])
        (event.End op mark ∷ []) refl (may_end at, tt) refl refl))

module _ (script : ScriptModel) (told : Bool) (r : ReactorHalf) (place : Place) (a k : ℕ)
    (is_next : IsNext script told r place a k) (s : ContextState) (within : a < length s.acts) (there : IsThere s place)
    (few : s.events ≤ most_faults) (at : IsAt s place (both k)) (inline : is_inline script a ≡ true) (position mark : ℕ)
    (body : List Posted) where
  abbrev inner : Place
  inner = Some (a, class.Ok)

  abbrev execution : List Posted
  execution = execution_of a code.Ok 0 position mark body

  module _ (opened : ContextState) (first : Opens script told r place a k false s opened) where
    abbrev running : ContextState
    running = counted (begun opened a code.Ok)

    goes-begin : Goes script told r opened (posted.Begin a code.Ok 0 position ∷ []) running
    goes-begin =
        goes-by script told r opened running (posted.Begin a code.Ok 0 position ∷ []) (event.Begin a code.Ok 0 ∷ []) refl (
          inr (record {
            inside = ap (λ (act : ActState). act.phase) first.act ∙ accepted-inline script a inline;
            called = ap (λ (act : ActState). is_made act.call) first.act;
            ok = refl;
            empty = refl;
          }),
          tt,
        )
        (ap (λ b.
        record {
          context = counted (cond b (begun opened a code.Ok) (spend (lane_of script a) (begun opened a code.Ok)));
          reactor = r;
        }) inline) refl

    running_touches : Touches place a opened running
    running_touches =
        touches-set place a opened (record (act_at opened a) { phase = phase.Running class.Ok no_progress }) is_next.behind

    running_act : act_at running a ≡ record { call = call.Open s.events; phase = phase.Running class.Ok no_progress }
    running_act =
        act_at-same opened a (record (act_at opened a) { phase = phase.Running class.Ok no_progress })
        (omega (arith, within, first.touches.count))
        ∙ ap (λ (act : ActState). record act { phase = phase.Running class.Ok no_progress }) first.act

    module _ (did : MovesOn script told r inner (length (branch_of script a class.Ok)) body running) where
      abbrev over : ContextState
      over = counted (with_phase did.after a phase.Ended)

      over_act : act_at over a ≡ record { call = call.Open s.events; phase = phase.Ended }
      over_act =
          act_at-same did.after a (record (act_at did.after a) { phase = phase.Ended })
          (omega (arith, within, first.touches.count, did.moves.count, running_touches.count))
          ∙ ap (λ c. record { call = c; phase = phase.Ended }) (did.moves.caller ∙ ap (λ (act : ActState). act.call) running_act)

      over_at : IsAt over place (record { made = k + 1; back = k })
      over_at =
          let progress : Progress = record { made = k + 1; back = k } in
          at-same place did.after over progress
          (same-set place a did.after (record (act_at did.after a) { phase = phase.Ended }) is_next.behind)
          (at-same place running did.after progress
          (same-inner script told r place a class.Ok body running did.after is_next.behind did.moves)
          (at-same place opened running progress
          (same-set place a opened (record (act_at opened a) { phase = phase.Running class.Ok no_progress })
          is_next.behind) first.at))

      over_touches : Touches place a did.after over
      over_touches = touches-set place a did.after (record (act_at did.after a) { phase = phase.Ended }) is_next.behind

      module _ (closed : ContextState) (last : Returns script told r place a k false s.events over closed) where
        abbrev all_calls : List Posted
        all_calls = posted.Call a ∷ (execution ++ posted.Back a ∷ [])

        called_is : (n : ℕ) → is_called n (execution ++ posted.Back a ∷ []) ≡ is_called n body
        called_is n =
            called-append n execution (posted.Back a ∷ [])
            ∙ (or-false (is_called n execution) ∙ called-execution n a code.Ok 0 position mark body)

        stopping_is : are_stopping script all_calls ≡ are_stopping script body
        stopping_is =
            ap (λ b. cond b true (are_stopping script (execution ++ posted.Back a ∷ []))) (inline_no_stop script a inline)
            ∙ (stopping-append script execution (posted.Back a ∷ [])
            ∙ (or-false (are_stopping script execution) ∙ stopping-execution script a code.Ok 0 position mark body))

        own_either : (n : ℕ) → (a ≡ n) ⊎ (is_called n (execution ++ posted.Back a ∷ []) ≡ true) → IsBehind place n
        own_either n (inl same) = subst (IsBehind place) same is_next.behind
        own_either n (inr is) = behind-more place a n is_next.behind (did.moves.own n (sym (called_is n) ∙ is))

        kept_by : (n : ℕ) → (n ≢ a) × (is_called n (execution ++ posted.Back a ∷ []) ≡ false) → IsElsewhere place n →
            act_at closed n ≡ act_at s n
        kept_by n other away =
            last.touches.kept n other.0 away ∙ (over_touches.kept n other.0 away
            ∙ (did.moves.kept n (sym (called_is n) ∙ other.1) other.0
            ∙ (running_touches.kept n other.0 away ∙ first.touches.kept n other.0 away)))

        opened_later : s.events ≤ opened.events
        opened_later = goes-from script told r s opened (posted.Call a ∷ []) few first.goes

        opened_few : opened.events ≤ most_faults
        opened_few = goes-bound script told r s opened (posted.Call a ∷ []) few first.goes

        running_later : s.events ≤ running.events
        running_later =
            omega (
              arith,
              opened_later,
              goes-from script told r opened running (posted.Begin a code.Ok 0 position ∷ []) opened_few goes-begin,
            )

        goes-inner : Goes script told r opened execution over
        goes-inner =
            goes-execution script told r a code.Ok 0 position mark body opened running did.after goes-begin did.moves.goes did.at

        called_before : s.events ≤ over.events
        called_before = omega (arith, opened_later, goes-from script told r opened over execution opened_few goes-inner)

        back_here : IsBackSince script s.events a (act_at closed a)
        back_here = record {
          called = s.events;
          back = over.events;
          is = last.act ∙ (ap (λ (act : ActState). record { call = call.Back s.events over.events; phase = act.phase }) over_act
              ∙ ap (λ phase. record { call = call.Back s.events over.events; phase = phase }) (sym (ap (λ b. cond b phase.Ended (accepted script a)) inline)));
          since = omega arith;
          order = called_before;
        }

        back_either : (n : ℕ) → (a ≡ n) ⊎ (is_called n (execution ++ posted.Back a ∷ []) ≡ true) →
            IsBackSince script s.events n (act_at closed n)
        back_either n (inl same) = subst (λ n. IsBackSince script s.events n (act_at closed n)) same back_here
        back_either n (inr is) =
            let inner_called : is_called n body ≡ true = sym (called_is n) ∙ is in
            let other : n ≢ a = λ same. absurd (omega (arith, same, did.moves.own n inner_called)) in
            let away : IsElsewhere place n = elsewhere place n (own_either n (inr is)) in
            back_still script running.events s.events n (act_at did.after n) (act_at closed n) running_later
            (last.touches.kept n other away ∙ over_touches.kept n other away) (did.moves.back n inner_called)

        -- counts on the way, where they haven't come to their end
        over_before : over.events ≤ closed.events
        over_before =
            goes-from script told r over closed (posted.Back a ∷ [])
            (goes-bound script told r opened over execution opened_few goes-inner) last.goes

        after_before : did.after.events ≤ over.events
        after_before =
            one_more-from did.after.events (goes-bound script told r running did.after body
            (goes-bound script told r opened running (posted.Begin a code.Ok 0 position ∷ []) opened_few goes-begin)
            did.moves.goes)

        over_rose : closed.events < most_faults → over.events < closed.events
        over_rose room =
            subst (λ m. over.events < m) (sym last.goes.count)
            (one_more-rose over.events (subst (λ m. m < most_faults) last.goes.count room))

        after_room : closed.events < most_faults → did.after.events < most_faults
        after_room room = omega (arith, room, over_before, after_before)

        still : (n : ℕ) → is_called n body ≡ true → act_at closed n ≡ act_at did.after n
        still n is =
            let other : n ≢ a = λ same. absurd (omega (arith, same, did.moves.own n is)) in
            let away : IsElsewhere place n = elsewhere place n (own_either n (inr (called_is n ∙ is))) in
            last.touches.kept n other away ∙ over_touches.kept n other away

        past_either : closed.events < most_faults → (n : ℕ) →
            (a ≡ n) ⊎ (is_called n (execution ++ posted.Back a ∷ []) ≡ true) →
            IsCallPast closed.events (call_at closed n)
        past_either room n (inl same) =
            let is_back : call.Back s.events over.events ≡ call_at closed a =
            sym (ap (λ (act : ActState). act.call) last.act) in
            subst (λ n. IsCallPast closed.events (call_at closed n)) same
            (subst (IsCallPast closed.events) is_back (called_before, over_rose room))
        past_either room n (inr is) =
            let in_body : is_called n body ≡ true = sym (called_is n) ∙ is in
            let later : did.after.events ≤ closed.events = omega (arith, over_before, after_before) in
            subst (IsCallPast closed.events) (sym (ap (λ (act : ActState). act.call) (still n in_body)))
            (past_later did.after.events closed.events (call_at did.after n) later
            (did.moves.past (after_room room) n in_body))

        acts_is : acts_called (execution ++ posted.Back a ∷ []) ≡ acts_called body
        acts_is =
            acts-append execution (posted.Back a ∷ [])
            ∙ (append-nil (acts_called execution) ∙ acts-execution a code.Ok 0 position mark body)

        -- the act was called before all that its body calls
        before_body : closed.events < most_faults → (n : ℕ) → is_called n body ≡ true →
            asked_at closed a < asked_at closed n
        before_body room n is =
            let here : asked_at closed a ≡ s.events = ap (λ (act : ActState). called_at act.call) last.act in
            let there : asked_at closed n ≡ asked_at did.after n =
            ap (λ (act : ActState). called_at act.call) (still n is) in
            let since : running.events ≤ asked_at did.after n =
            asked_since script running.events n (act_at did.after n) (did.moves.back n is) in
            let running_room : running.events < most_faults =
            omega (
              arith,
              after_room room,
              goes-from script told r running did.after body
                  (goes-bound script told r opened running (posted.Begin a code.Ok 0 position ∷ []) opened_few
                  goes-begin) did.moves.goes,
            ) in
            let rose : opened.events < running.events = one_more-rose opened.events running_room in
            omega (arith, here, there, since, rose, opened_later)

        rising_inside : closed.events < most_faults → Rises (asked_at closed) (acts_called all_calls)
        rising_inside room =
            subst (λ acts. Rises (asked_at closed) (a ∷ acts)) (sym acts_is) (
              all_called (λ n. asked_at closed a < asked_at closed n) body (before_body room),
              rises-same (asked_at did.after) (asked_at closed) (acts_called body)
                  (all_called (λ n. asked_at closed n ≡ asked_at did.after n) body
                  (λ n is. ap (λ (act : ActState). called_at act.call) (still n is)))
                  (did.moves.rising (after_room room)),
            )

        moves_inside : Moves script told r place all_calls s closed
        moves_inside = record {
          goes =
              goes-both script told r s opened closed (posted.Call a ∷ []) (execution ++ posted.Back a ∷ []) first.goes
              (goes-both script told r opened over closed execution (posted.Back a ∷ []) goes-inner last.goes);
          count =
              last.touches.count
              ∙ (over_touches.count ∙ (did.moves.count ∙ (running_touches.count ∙ first.touches.count)));
          own = λ n called. own_either n (one_called a n (is_called n (execution ++ posted.Back a ∷ [])) called);
          kept = λ n isnt away. kept_by n (none_called a n (is_called n (execution ++ posted.Back a ∷ [])) isnt) away;
          back = λ n called. back_either n (one_called a n (is_called n (execution ++ posted.Back a ∷ [])) called);
          caller = kept-both place s opened closed first.touches.caller
              (kept-both place opened running closed running_touches.caller
              (kept-both place running did.after closed (kept-same place running did.after (same-inner script told r place a class.Ok body running did.after is_next.behind did.moves))
              (kept-both place did.after over closed over_touches.caller last.touches.caller)));
          opening = λ inside. last.touches.opening inside ∙ (did.moves.opening tt ∙ first.touches.opening inside);
          closings = last.touches.closings ∙ (did.moves.closings ∙ first.touches.closings);
          restarted = last.touches.restarted ∙ (did.moves.restarted ∙ first.touches.restarted);
          dropping = last.touches.dropping ∙ (did.moves.dropping ∙ first.touches.dropping);
          turn = last.touches.turn ∙ (did.moves.turn ∙ first.touches.turn);
          stopped = last.stopped ∙ (did.moves.stopped
              ∙ (ap (λ b. b || are_stopping script body) (first.stopped ∙ or-false s.stopped) ∙ ap (λ b. s.stopped || b) (sym stopping_is)));
          allowed = λ never. last.allowed refl ∙ (did.moves.allowed (sym stopping_is ∙ never) ∙ first.allowances);
          lanes = last.lanes ∙ (did.moves.lanes ∙ ap (λ (a : Allowances). length a.strands) first.allowances);
          past = λ room n called.
              past_either room n (one_called a n (is_called n (execution ++ posted.Back a ∷ [])) called);
          rising = rising_inside;
        }

  -- the act is called, executes what is inside its call, and is back
  pub act_inside : ((t : ContextState) → length t.acts ≡ length s.acts → t.events ≤ most_faults →
      IsAt t (Some (a, class.Ok)) (both 0) →
      MovesOn script told r (Some (a, class.Ok)) (length (branch_of script a class.Ok)) body t) →
      MovesOn script told r place (k + 1) (posted.Call a ∷ (execution_of a code.Ok 0 position mark body ++ posted.Back a ∷ [])) s
  act_inside executes =
      let not_stop : stops script a ≡ false = inline_no_stop script a inline in
      let one = opens script told r place a k is_next s within there at false not_stop in
      let begun : ContextState = running one.0 one.1 in
      let begun_few : begun.events ≤ most_faults =
      goes-bound script told r one.0 begun (posted.Begin a code.Ok 0 position ∷ [])
      (goes-bound script told r s one.0 (posted.Call a ∷ []) few one.1.goes) (goes-begin one.0 one.1) in
      let did =
      executes begun ((running_touches one.0 one.1).count ∙ one.1.touches.count) begun_few
      (ap (λ (act : ActState). act.phase) (running_act one.0 one.1)) in
      let done : ContextState = over one.0 one.1 did in
      let size : length done.acts ≡ length s.acts =
      (over_touches one.0 one.1 did).count
      ∙ (did.moves.count ∙ ((running_touches one.0 one.1).count ∙ one.1.touches.count)) in
      let done_act : act_at done a ≡ record { call = call.Open s.events; phase = phase.Ended } =
      over_act one.0 one.1 did in
      let two =
      returns script told r place a k is_next done (omega (arith, within, size)) (there-still place s done size there)
      false s.events not_stop (over_at one.0 one.1 did)
      (ap (λ (act : ActState). act.call) done_act) (done_inside s.events (act_at done a) (is_inline script a) inline done_act) in
      record { after = two.0; at = two.1.at; moves = moves_inside one.0 one.1 did two.0 two.1 }
