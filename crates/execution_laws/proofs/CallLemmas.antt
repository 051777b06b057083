-- One act of a body: its call, which for a stop also stops the context, and its return.
use Rattle.std.proofs.Common.{◌≡◌, ℕ, ◌+◌, ◌<◌, Bool, true, false, ◌||◌, cond, List, [], ◌∷◌, Some, None, length, refl, sym, ap, subst, ◌∙◌, arith}
use Rattle.std.proofs.Math.Bool.{or-false, or-true}
use Rattle.std.specs.List.{slice_index_or}
use Rattle.std.specs.Prelude.{IsSomeAnd, slice_get}
use Rattle.asio_types.specs.Faults.{most_faults, one_more}
use Rattle.asio_types.specs.declared.event.Event.TheVariants as event
use Rattle.session_script.specs.Script.{Place, ScriptModel, is_stop, parent_of, stops}
use Rattle.session_script.specs.Lanes.{is_inline}
use Rattle.history_rules.specs.Calls.{IsNextOf, MayCall, MayReturn, MayStop, accepted, after_call, after_return, after_stop, body_at, is_call_done, is_made, limited, returned, stopping}
use Rattle.history_rules.specs.Kinds.{is_act}
use Rattle.history_rules.specs.State.{Allowances, ContextState, ReactorHalf, act_at, call_at, counted, fresh, phase_at, with_act}
use Rattle.history_rules.specs.declared.phase.ActState.{ActState}
use Rattle.history_rules.specs.declared.phase.CallPhase.{CallPhase}
use Rattle.history_rules.specs.declared.phase.CallPhase.TheVariants as call
use Rattle.history_rules.specs.declared.phase.Progress.{Progress}
use Rattle.strand_core.specs.declared.posted.Posted.TheVariants as posted
use Rattle.execution_laws.proofs.CountLemmas.{one_more-is}
use Rattle.execution_laws.proofs.EventLemmas.{Goes, goes-by}
use Rattle.execution_laws.proofs.ScriptLemmas.{same_class-self, stops-is}
use Rattle.execution_laws.proofs.StateLemmas.{IsAt, IsBehind, IsThere, Limits, Touches, act_at-same, acts_in, at-came, at-same, both, at-uncounted, came_to, elsewhere, kept-came, limits, quiet-came, same-limited, same-set, same-stopped, touches-both, touches-came, touches-limited, touches-set, touches-stopped, touches-uncounted, there-shut}

-- the body of `open` goes on unless the reactor has failed
abbrev pub IsGoing : Bool → Place → Type 0
IsGoing failed None = failed ≡ false
IsGoing failed (Some at) = Unit {0}

-- the call of an act as it stands before its return
abbrev pub opened_as : Bool → ℕ → CallPhase
opened_as true called = call.Stopping called
opened_as false called = call.Open called

-- the body that is being executed
body-is : (script : ScriptModel) (failed : Bool) (s : ContextState) (place : Place) (progress : Progress) →
    IsGoing failed place → IsAt s place progress →
    body_at script failed s place ≡ Some (record { acts = acts_in script place; progress = progress })
body-is script failed s None progress going is = rw (going, is) refl
body-is script failed s (Some at) progress going is = rw is (rw (same_class-self at.1) refl)

-- the next act of a body may be called
may_call : (script : ScriptModel) (failed : Bool) (s : ContextState) (place : Place) (a k : ℕ) →
    parent_of script a ≡ place → IsGoing failed place → IsAt s place (both k) →
    slice_get (acts_in script place) k ≡ Some a → MayCall script failed s a
may_call script failed s place a k parent going is next =
    subst (λ body. IsSomeAnd body (IsNextOf a))
    (sym (ap (body_at script failed s) parent ∙ body-is script failed s place (both k) going is))
    (record { idle = refl; next = next })

-- the state once an act was called
call_made : (script : ScriptModel) (s : ContextState) (place : Place) (a : ℕ) (p : Progress) →
    parent_of script a ≡ place → IsAt s place p →
    after_call script s a
    ≡ counted (with_act (came_to place (record p { made = one_more p.made }) s) a
    (record { call = call.Open s.events; phase = accepted script a }))
call_made script s None a p parent is =
    rw parent (ap (λ (q : Progress).
    counted (with_act (record s { opening = record q { made = one_more q.made } }) a
    (record { call = call.Open s.events; phase = accepted script a }))) is)
call_made script s (Some at) a p parent is = rw parent (rw is refl)

-- the state once its call is back
return_made : (script : ScriptModel) (s : ContextState) (place : Place) (a : ℕ) (p : Progress) →
    parent_of script a ≡ place →
    IsAt (with_act s a (record (act_at s a) { call = returned s.events (call_at s a) })) place p →
    after_return script s a
    ≡ counted (cond (is_act is_stop script a)
    (limited script a place (came_to place (record p { back = one_more p.back })
    (with_act s a (record (act_at s a) { call = returned s.events (call_at s a) }))))
    (came_to place (record p { back = one_more p.back })
    (with_act s a (record (act_at s a) { call = returned s.events (call_at s a) }))))
return_made script s None a p parent is = rw parent (rw is refl)
return_made script s (Some at) a p parent is = rw parent (rw is refl)

module _ (script : ScriptModel) (told : Bool) (r : ReactorHalf) (place : Place) (a k : ℕ) where
  -- the act was called, and has stopped the context if it does that
  pub record Opens (stopping : Bool) (s t : ContextState) : Type 0 where
    pub goes : Goes script told r s (posted.Call a ∷ []) t
    pub touches : Touches place a s t
    pub at : IsAt t place (record { made = k + 1; back = k })
    pub act : act_at t a ≡ record { call = opened_as stopping s.events; phase = accepted script a }
    pub stopped : t.stopped ≡ (s.stopped || stopping)
    pub allowances : t.allowances ≡ s.allowances

  -- and is back
  pub record Returns (stopping : Bool) (called : ℕ) (s t : ContextState) : Type 0 where
    pub goes : Goes script told r s (posted.Back a ∷ []) t
    pub touches : Touches place a s t
    pub at : IsAt t place (both (k + 1))
    pub act : act_at t a ≡ record { call = call.Back called s.events; phase = phase_at s a }
    pub stopped : t.stopped ≡ s.stopped
    pub allowed : stopping ≡ false → t.allowances ≡ s.allowances
    pub lanes : length t.allowances.strands ≡ length s.allowances.strands

  -- what is known of the act
  pub record IsNext : Type 0 where
    pub parent : parent_of script a ≡ place
    pub behind : IsBehind place a
    pub next : slice_get (acts_in script place) k ≡ Some a
    pub few : k < most_faults
    pub going : IsGoing r.failed place

  module _ (is_next : IsNext) (s : ContextState) (within : a < length s.acts) (there : IsThere s place) where
    -- the body has made one more call
    abbrev forward : ContextState
    forward = came_to place (record { made = one_more k; back = k }) s

    abbrev opened : ActState
    opened = record { call = call.Open s.events; phase = accepted script a }

    abbrev made : ContextState
    made = counted (with_act forward a opened)

    made-touches : Touches place a s made
    made-touches =
        touches-both place a s forward made (touches-came place a s (record { made = one_more k; back = k }) there)
        (touches-set place a forward opened is_next.behind)

    made-at : IsAt made place (record { made = k + 1; back = k })
    made-at =
        at-same place forward made (record { made = k + 1; back = k }) (same-set place a forward opened is_next.behind)
        (subst (λ n. IsAt forward place (record { made = n; back = k })) (one_more-is k is_next.few)
        (at-came place s (record { made = one_more k; back = k }) there))

    made-act : act_at made a ≡ opened
    made-act =
        act_at-same forward a opened
        (omega (arith, within, (touches-came place a s (record { made = one_more k; back = k }) there).count))

    made-events : made.events ≡ one_more s.events
    made-events = ap one_more (quiet-came place s (record { made = one_more k; back = k })).events

    module _ (at : IsAt s place (both k)) where
      is-made : after_call script s a ≡ made
      is-made = call_made script s place a (both k) is_next.parent at

      may_be_called : MayCall script r.failed s a
      may_be_called = may_call script r.failed s place a k is_next.parent is_next.going at is_next.next

      pub opens_going : stops script a ≡ false → Opens false s made
      opens_going not_stop = record {
        goes =
            goes-by script told r s made (posted.Call a ∷ []) (event.Call a ∷ []) (rw not_stop refl) (may_be_called, tt)
            (ap (λ (c : ContextState). record { context = c; reactor = r }) is-made) made-events;
        touches = made-touches;
        at = made-at;
        act = made-act;
        stopped = (quiet-came place s (record { made = one_more k; back = k })).stopped ∙ sym (or-false s.stopped);
        allowances = (quiet-came place s (record { made = one_more k; back = k })).allowances;
      }

      -- a stop that has stopped the context
      abbrev stopped_act : ActState
      stopped_act = record (act_at made a) { call = stopping (call_at made a) }

      abbrev halted : ContextState
      halted = counted (record (with_act made a stopped_act) { stopped = true })

      may_stop : stops script a ≡ true → MayStop script (after_call script s a) a
      may_stop is_stopping =
          subst (λ (c : ContextState). MayStop script c a) (sym is-made) (record {
            stops = stops-is script a ∙ is_stopping;
            made = ap (λ (act : ActState). is_made act.call) made-act;
          })

      pub opens_stopping : stops script a ≡ true → Opens true s halted
      opens_stopping is_stopping = record {
        goes =
            goes-by script told r s halted (posted.Call a ∷ []) (event.Call a ∷ event.Stop (Some a) ∷ [])
            (rw is_stopping refl) (may_be_called, (may_stop is_stopping, tt))
            (ap (λ (c : ContextState). record { context = after_stop c a; reactor = r }) is-made) (ap one_more made-events);
        touches =
            touches-both place a s made halted made-touches (touches-stopped place a made stopped_act is_next.behind);
        at =
            at-same place made halted (record { made = k + 1; back = k })
            (same-stopped place a made stopped_act is_next.behind) made-at;
        act =
            act_at-same made a stopped_act (omega (arith, within, made-touches.count))
            ∙ ap (λ (act : ActState). record act { call = stopping act.call }) made-act;
        stopped = sym (or-true s.stopped);
        allowances = (quiet-came place s (record { made = one_more k; back = k })).allowances;
      }

      -- the act is called, whether it stops the context or not
      pub opens : (b : Bool) → stops script a ≡ b → (t : ContextState) × Opens b s t
      opens true is = (halted, opens_stopping is)
      opens false is = (made, opens_going is)

    -- the act, once its call is back
    abbrev closed : ActState
    closed = record (act_at s a) { call = returned s.events (call_at s a) }

    abbrev shut : ContextState
    shut = with_act s a closed

    -- the body has one more call back
    abbrev arrived : ContextState
    arrived = came_to place (record { made = k + 1; back = one_more k }) shut

    abbrev freed : Bool → ContextState
    freed b = cond b (limited script a place arrived) arrived

    may_return : (b : Bool) → stops script a ≡ b → is_call_done b (is_inline script a) (act_at s a) ≡ true →
        MayReturn script s a
    may_return b is done = ap (λ b. is_call_done b (is_inline script a) (act_at s a)) (stops-is script a ∙ is) ∙ done

    returned_call : (b : Bool) (called : ℕ) → (act_at s a).call ≡ opened_as b called →
        returned s.events (call_at s a) ≡ call.Back called s.events
    returned_call true called is = ap (returned s.events) is
    returned_call false called is = ap (returned s.events) is

    pub returns : (b : Bool) (called : ℕ) → stops script a ≡ b → IsAt s place (record { made = k + 1; back = k }) →
        (act_at s a).call ≡ opened_as b called → is_call_done b (is_inline script a) (act_at s a) ≡ true →
        (t : ContextState) × Returns b called s t
    returns b called is at is_open done =
        let allowed : Limits b arrived (freed b) = limits script place a b arrived in
        let shut_at : IsAt (counted shut) place (record { made = k + 1; back = k }) =
        at-same place s (counted shut) (record { made = k + 1; back = k }) (same-set place a s closed is_next.behind) at in
        let came : Touches place a shut arrived =
        touches-came place a shut (record { made = k + 1; back = one_more k }) (there-shut place a s closed there) in
        let set : Touches place a s (counted shut) = touches-set place a s closed is_next.behind in
        let is_back : after_return script s a ≡ counted (freed b) =
        return_made script s place a (record { made = k + 1; back = k }) is_next.parent
        (at-uncounted place shut (record { made = k + 1; back = k }) shut_at)
        ∙ ap (λ b. counted (freed b)) (stops-is script a ∙ is) in (
          counted (freed b),
          record {
            goes =
                goes-by script told r s (counted (freed b)) (posted.Back a ∷ []) (event.Back a ∷ []) refl
                (may_return b is done, tt)
                (ap (λ (c : ContextState). record { context = c; reactor = r }) is_back)
                (ap one_more
                (allowed.events ∙ (quiet-came place shut (record { made = k + 1; back = one_more k })).events));
            touches =
                touches-limited place a b s arrived (freed b)
                (touches-both place a s (counted shut) arrived set (touches-uncounted place a shut arrived came))
                allowed;
            at =
                at-same place arrived (counted (freed b)) (both (k + 1)) (same-limited place b arrived (freed b) allowed)
                (subst (λ n. IsAt arrived place (record { made = k + 1; back = n })) (one_more-is k is_next.few)
                (at-came place shut (record { made = k + 1; back = one_more k })
                (there-shut place a s closed there)));
            act = ap (λ (acts : List ActState). slice_index_or acts a fresh) allowed.acts
                ∙ (kept-came place a shut (record { made = k + 1; back = one_more k }) (elsewhere place a is_next.behind)
                ∙ (act_at-same s a closed within
                ∙ ap (λ (c : CallPhase). record { call = c; phase = phase_at s a }) (returned_call b called is_open)));
            stopped = allowed.stopped ∙ (quiet-came place shut (record { made = k + 1; back = one_more k })).stopped;
            allowed = λ never.
                allowed.allowed never ∙ (quiet-came place shut (record { made = k + 1; back = one_more k })).allowances;
            lanes =
                allowed.lanes
                ∙ ap (λ (a : Allowances). length a.strands)
                (quiet-came place shut (record { made = k + 1; back = one_more k })).allowances;
          },
        )
