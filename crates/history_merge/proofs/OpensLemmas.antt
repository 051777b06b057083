-- At most one call of `open` is open at a time: each event keeps it.
use Rattle.std.proofs.Common.{◌≡◌, ◌⊎◌, ℕ, ◌+◌, ◌<◌, Bool, true, false, List, Some, None, inl, inr, length, refl, sym, ap, subst, ◌∙◌, arith}
use Rattle.std.specs.Prelude.{slice_get, IsSomeAnd, ◌&&◌}
use Rattle.std.specs.Option.{unwrap_or}
use Rattle.std.specs.List.{slice_set}
use Rattle.std.proofs.lemmas.Option.{slice_get_within}
use Rattle.asio_types.specs.Faults.{most_faults, one_more}
use Rattle.asio_types.specs.Code.{class_of_code}
use Rattle.asio_types.specs.declared.event.Event.{Event}
use Rattle.asio_types.specs.declared.event.Event.TheVariants as event
use Rattle.session_script.specs.Script.{Place, ScriptModel, is_stop, opening_of, parent_of}
use Rattle.session_script.specs.WellFormed.{IsWellFormed}
use Rattle.session_script.specs.Lanes.{is_inline, lane_of}
use Rattle.history_rules.specs.Calls.{IsNextOf, accepted, after_return, body_at, has_stopped, is_call_done, is_made, is_open, progressed, returned, stopping, with_progress}
use Rattle.history_rules.specs.Executions.{begun}
use Rattle.history_rules.specs.Kinds.{is_act}
use Rattle.history_rules.specs.Legal.{MayHappen, context_after}
use Rattle.history_rules.specs.State.{ContextState, State, act_at, call_at, no_progress, phase_at, with_call, with_phase}
use Rattle.history_rules.specs.declared.phase.ActPhase.{ActPhase}
use Rattle.history_rules.specs.declared.phase.ActPhase.TheVariants as phase
use Rattle.history_rules.specs.declared.phase.ActState.{ActState}
use Rattle.history_rules.specs.declared.phase.CallPhase.{CallPhase}
use Rattle.history_rules.specs.declared.phase.CallPhase.TheVariants as call
use Rattle.history_rules.specs.declared.phase.Cause.TheVariants as cause
use Rattle.history_rules.specs.declared.phase.Progress.{Progress}
use Rattle.history_rules.specs.declared.phase.Step.{Step}
use Rattle.history_rules.specs.declared.phase.Step.TheVariants as step
use Rattle.execution_laws.proofs.CountLemmas.{one_more-is}
use Rattle.execution_laws.proofs.ScriptLemmas.{few_in}
use Rattle.execution_laws.proofs.PlaceLemmas.{few_acts}
use Rattle.execution_laws.proofs.StateLemmas.{IsElsewhere, IsHandlers}
use Rattle.history_merge.proofs.AlikeLemmas.{closed_returned, never}
use Rattle.history_merge.proofs.EachActLemmas.{Each, right_set}
use Rattle.history_merge.proofs.FrameLemmas.{acts_limited, acts_spent, opening-after, returned_act}
use Rattle.history_merge.proofs.NextCallLemmas.{open_within}
use Rattle.history_merge.proofs.OrderlyLemmas.{IsCallOf}
use Rattle.history_merge.proofs.SoLemmas.{OpensInTurn}

-- an act whose call is open was open before, or is called now
pub record OpensStep (shown : Event) (n : ℕ) (x y : ActState) : Type 0 where
  pub opens : is_open y.call ≡ true → (is_open x.call ≡ true) ⊎ IsCallOf shown n

open_stopping : (of : CallPhase) → is_open (stopping of) ≡ is_open of
open_stopping (call.Open called) = refl
open_stopping other = refl

done_open : (stops inside : Bool) (act : ActState) → is_call_done stops inside act ≡ true → is_open act.call ≡ true
done_open true inside act done = stopped_open act.call done
  where
    stopped_open : (of : CallPhase) → has_stopped of ≡ true → is_open of ≡ true
    stopped_open (call.Stopping called) is = refl
    stopped_open other is = absurd (cc)
done_open false inside act done = made_open act.call (first_of_both (is_made act.call) _ done)
  where
    first_of_both : (a b : Bool) → (a && b) ≡ true → a ≡ true
    first_of_both true b is = refl
    first_of_both false b is = absurd (cc)

    made_open : (of : CallPhase) → is_made of ≡ true → is_open of ≡ true
    made_open (call.Open called) is = refl
    made_open other is = absurd (cc)

module _ (script : ScriptModel) (s : ContextState) (shown : Event) where
  abbrev Opens : List ActState → Type 0
  Opens acts = Each (OpensStep shown) s.acts acts

  base_opens : Opens s.acts
  base_opens n = record { opens = λ is. inl is }

  set_opens : (ys : List ActState) (a : ℕ) (y : ActState) → Opens ys →
      (is_open y.call ≡ true → (is_open (call_at s a) ≡ true) ⊎ IsCallOf shown a) → Opens (slice_set ys a y)
  set_opens ys a y each opens = right_set (OpensStep shown) s.acts ys a y each (record { opens = opens })

  progress_opens : (place : Place) (step : Step) (t : ContextState) → Opens t.acts → Opens (with_progress place step t).acts
  progress_opens None step t each = each
  progress_opens (Some at) step t each =
      set_opens t.acts at.0 (record (act_at t at.0) { phase = progressed step (phase_at t at.0) }) each (each at.0).opens

  phase_opens : (o : ℕ) (to : ActPhase) → Opens (with_phase s o to).acts
  phase_opens o to = set_opens s.acts o (record (act_at s o) { phase = to }) base_opens (λ is. inl is)

module _ (script : ScriptModel) (s : ContextState) where
  opens_step : (shown : Event) → Each (OpensStep shown) s.acts (context_after script s shown).acts
  opens_step (event.Call a) =
      set_opens script s (event.Call a) (with_progress (parent_of script a) step.Made s).acts a
      (record { call = call.Open s.events; phase = accepted script a })
      (progress_opens script s (event.Call a) (parent_of script a) step.Made s (base_opens script s (event.Call a)))
      (λ is. inr refl)
  opens_step (event.Stop (Some a)) =
      set_opens script s (event.Stop (Some a)) s.acts a (record (act_at s a) { call = stopping (call_at s a) })
      (base_opens script s (event.Stop (Some a))) (λ is. inl (sym (open_stopping (call_at s a)) ∙ is))
  opens_step (event.Back a) =
      let back : ContextState = with_call s a (returned s.events (call_at s a)) in
      subst (Each (OpensStep (event.Back a)) s.acts)
      (sym (acts_limited script (parent_of script a) a (is_act is_stop script a)
      (with_progress (parent_of script a) step.Back back)))
      (progress_opens script s (event.Back a) (parent_of script a) step.Back back
      (set_opens script s (event.Back a) s.acts a (record (act_at s a) { call = returned s.events (call_at s a) })
      (base_opens script s (event.Back a))
      (λ is. absurd (never (is_open (returned s.events (call_at s a))) (closed_returned s.events (call_at s a)) is))))
  opens_step (event.Begin o given size) =
      subst (Each (OpensStep (event.Begin o given size)) s.acts)
      (sym (acts_spent (is_inline script o) (lane_of script o) (begun s o given)))
      (phase_opens script s (event.Begin o given size) o (phase.Running (class_of_code given) no_progress))
  opens_step (event.End o mark) = phase_opens script s (event.End o mark) o phase.Ended
  opens_step (event.Done o given size) =
      phase_opens script s (event.Done o given size) o
      (phase.Ready given size (cause.Completed s.events (unwrap_or s.turn 0)))
  opens_step (event.Dropped o mark) = phase_opens script s (event.Dropped o mark) o phase.Dropped
  opens_step (event.Stop None) = base_opens script s (event.Stop None)
  opens_step other = base_opens script s other

opening_call : (script : ScriptModel) (a : ℕ) (failed : Bool) (s : ContextState) →
    IsSomeAnd (body_at script failed s None) (IsNextOf a) →
    IsNextOf a (record { acts = opening_of script; progress = s.opening })
opening_call script a true s next = absurd next
opening_call script a false s next = next

module _ (script : ScriptModel) (well : IsWellFormed script) (told : Bool) (s : State)
    (size : length s.context.acts ≡ length script.acts) (opens : OpensInTurn script s.context) where
  -- where no call of `open` is made or is back
  same_opening : (shown : Event) → (context_after script s.context shown).opening ≡ s.context.opening →
      ((n : ℕ) → parent_of script n ≡ None → IsCallOf shown n → ⊥) →
      OpensInTurn script (context_after script s.context shown)
  same_opening shown same uncalled n under is = elim ((opens_step script s.context shown n).opens is) [
    | inl was ↦
        let before = opens n under was in
        record {
          made = ap (λ (p : Progress). p.made) same
              ∙ (before.made ∙ ap (λ (p : Progress). p.back + 1) (sym same));
          at = ap (λ (p : Progress). slice_get (opening_of script) p.back) same ∙ before.at;
        }
    | inr called ↦ absurd (uncalled n under called)
  ]

  call_opens : (a : ℕ) (place : Place) → parent_of script a ≡ place →
      IsSomeAnd (body_at script s.reactor.failed s.context place) (IsNextOf a) →
      OpensInTurn script (context_after script s.context (event.Call a))
  call_opens a None under may = λ n root is.
      let next = opening_call script a s.reactor.failed s.context may in
      let few : s.context.opening.made < most_faults =
      omega (
        arith,
        slice_get_within (opening_of script) s.context.opening.made a next.next,
        few_in None 0 script.acts,
        few_acts script well,
      ) in
      let opening : (context_after script s.context (event.Call a)).opening
      ≡ record s.context.opening { made = one_more s.context.opening.made } =
      ap (λ place. (with_progress place step.Made s.context).opening) under in
      let made : (context_after script s.context (event.Call a)).opening.made ≡ s.context.opening.made + 1 =
      ap (λ (p : Progress). p.made) opening ∙ one_more-is s.context.opening.made few in
      let back : (context_after script s.context (event.Call a)).opening.back ≡ s.context.opening.back =
      ap (λ (p : Progress). p.back) opening in
      elim ((opens_step script s.context (event.Call a) n).opens is) [
        | inl was ↦ absurd (let before = (opens n root was).made in let idle = next.idle in omega (arith, before, idle))
        | inr called ↦
            record {
              made = let idle = next.idle in omega (arith, made, back, idle);
              at =
                  ap (slice_get (opening_of script)) (back ∙ sym next.idle)
                  ∙ (next.next ∙ ap Some (sym called));
            }
      ]
  call_opens a (Some at) under may =
      same_opening (event.Call a)
      (opening-after script s.context (event.Call a) (subst IsHandlers (sym under) tt))
      (λ n root called.
      let wrong : None ≡ Some at = sym root ∙ (ap (parent_of script) called ∙ under) in cc)

  back_opens : (a : ℕ) (place : Place) → parent_of script a ≡ place →
      is_call_done (is_act is_stop script a) (is_inline script a) (act_at s.context a) ≡ true →
      OpensInTurn script (context_after script s.context (event.Back a))
  back_opens a None under may = λ n root is.
      let was_open = done_open (is_act is_stop script a) (is_inline script a) (act_at s.context a) may in
      let own = opens a under was_open in
      elim ((opens_step script s.context (event.Back a) n).opens is) [
        | inl was ↦
            absurd (let other = opens n root was in
            let same : n ≡ a = some_same n a (sym other.at ∙ own.at) in
            let within : a < length s.context.acts = open_within s.context a was_open in
            let here = returned_act script s.context a within (subst (λ place. IsElsewhere place a) (sym under) tt) in
            let closed : is_open (call_at (after_return script s.context a) n) ≡ false =
            ap (λ n. is_open (call_at (after_return script s.context a) n)) same
            ∙ (ap (λ (act : ActState). is_open act.call) here ∙ closed_returned s.context.events (call_at s.context a)) in
            never (is_open (call_at (after_return script s.context a) n)) closed is)
        | inr called ↦ absurd called
      ]
    where
      some_same : (m n : ℕ) → Some m ≡ Some n → m ≡ n
      some_same m n is = cc
  back_opens a (Some at) under may =
      same_opening (event.Back a) (opening-after script s.context (event.Back a) (subst IsHandlers (sym under) tt))
      (λ n root called. called)

  -- each event keeps it
  pub opens_kept : (shown : Event) → MayHappen script told s shown → OpensInTurn script (context_after script s.context shown)
  opens_kept (event.Call a) may = call_opens a (parent_of script a) refl may
  opens_kept (event.Back a) may = back_opens a (parent_of script a) refl may
  opens_kept (event.Begin o given size) may =
      same_opening (event.Begin o given size) (opening-after script s.context (event.Begin o given size) tt)
      (λ n root called. called)
  opens_kept (event.Stop (Some a)) may = same_opening (event.Stop (Some a)) refl (λ n root called. called)
  opens_kept (event.Stop None) may = same_opening (event.Stop None) refl (λ n root called. called)
  opens_kept other may = same_opening other refl (λ n root called. called)
