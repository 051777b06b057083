-- A context where an execution is alone, beside one where other lanes go on: what the execution may do there it may do
-- here, and both stay alike.
use Rattle.std.proofs.Common.{◌≡◌, ◌≢◌, ℕ, Bool, true, false, List, Some, None, inl, inr, length, refl, sym, ap, subst, ◌∙◌}
use Rattle.std.specs.Prelude.{◌&&◌, IsSomeAnd}
use Rattle.std.specs.List.{slice_set}
use Rattle.std.specs.Option.{unwrap_or}
use Rattle.std.proofs.Math.ListN.{length-set}
use Rattle.std.proofs.lemmas.Bool.{and_parts}
use Rattle.asio_types.specs.Code.{class_of_code}
use Rattle.asio_types.specs.declared.code.Class.{Class}
use Rattle.asio_types.specs.declared.code.Code.{Code}
use Rattle.asio_types.specs.declared.event.Event.{Event}
use Rattle.asio_types.specs.declared.event.Event.TheVariants as event
use Rattle.asio_types.specs.declared.number.Lane.{Lane}
use Rattle.session_script.specs.Script.{Place, ScriptModel, is_stop, parent_of}
use Rattle.session_script.specs.Lanes.{is_inline, lane_of}
use Rattle.session_script.specs.WellFormed.{IsWellFormed}
use Rattle.history_rules.specs.Calls.{Body, IsNextOf, accepted, after_return, body_at, has_ended, has_stopped, is_call_done, is_made, is_open, progressed, returned, running_body, stopping, with_progress}
use Rattle.history_rules.specs.Executions.{MayBegin, after_begin, begun, has_finished}
use Rattle.history_rules.specs.Kinds.{is_act}
use Rattle.history_rules.specs.Legal.{MayHappen, context_after}
use Rattle.history_rules.specs.State.{ContextState, State, act_at, call_at, no_progress, phase_at, with_call, with_phase}
use Rattle.history_rules.specs.declared.phase.ActPhase.{ActPhase}
use Rattle.history_rules.specs.declared.phase.ActPhase.TheVariants as phase
use Rattle.history_rules.specs.declared.phase.ActState.{ActState}
use Rattle.history_rules.specs.declared.phase.CallPhase.{CallPhase}
use Rattle.history_rules.specs.declared.phase.CallPhase.TheVariants as call
use Rattle.history_rules.specs.declared.phase.Cause.TheVariants as cause
use Rattle.history_rules.specs.declared.phase.Step.{Step}
use Rattle.history_rules.specs.declared.phase.Step.TheVariants as step
use Rattle.execution_laws.specs.Ready.{is_ready}
use Rattle.history_merge.specs.Among.{IsOfOthers, IsPlaceOff, IsPlaceOn}
use Rattle.history_merge.proofs.BodyLaneLemmas.{IsOwn}
use Rattle.history_merge.proofs.EachActLemmas.{act_in, both_set, right_set}
use Rattle.history_merge.proofs.FrameLemmas.{acts_limited, acts_spent}
use Rattle.history_merge.proofs.AlikeLemmas.{LooksAlike, alike_called, alike_phase, alike_returned, alike_step, alike_stopping, came_to, is_executed, never, other_call, other_called, other_done, other_phase}

-- all acts of a context where an execution of a lane is alone, and where others go on
pub record SeesAlike (script : ScriptModel) (lane : Lane) (alone among : List ActState) : Type 0 where
  pub size : length among ≡ length alone
  pub each : (n : ℕ) → LooksAlike script lane n (act_in alone n) (act_in among n)

-- what may happen turns on how far calls have come, and not on their positions
made_came : (of : CallPhase) → is_made (came_to of) ≡ is_made of
made_came call.Uncalled = refl
made_came (call.Open called) = refl
made_came (call.Stopping called) = refl
made_came (call.Back called back) = refl

stopped_came : (of : CallPhase) → has_stopped (came_to of) ≡ has_stopped of
stopped_came call.Uncalled = refl
stopped_came (call.Open called) = refl
stopped_came (call.Stopping called) = refl
stopped_came (call.Back called back) = refl

pub open_made : (of : CallPhase) → is_made of ≡ true → is_open of ≡ true
open_made (call.Open called) is = refl
open_made other is = absurd (cc)

pub open_stopped : (of : CallPhase) → has_stopped of ≡ true → is_open of ≡ true
open_stopped (call.Stopping called) is = refl
open_stopped other is = absurd (cc)

executed_ended : (of : ActPhase) → has_ended of ≡ true → is_executed of ≡ true
executed_ended phase.Ended is = refl
executed_ended other is = absurd (cc)

executed_finished : (script : ScriptModel) (o : ℕ) (of : ActPhase) → has_finished script o of ≡ true →
    is_executed of ≡ true
executed_finished script o (phase.Running class progress) is = refl
executed_finished script o other is = absurd (cc)

executed_body : (script : ScriptModel) (o : ℕ) (class : Class) (of : ActPhase) (P : Body → Type 0) →
    IsSomeAnd (running_body script o class of) P → is_executed of ≡ true
executed_body script o class (phase.Running running progress) P is = refl
executed_body script o class other P is = absurd is

and_both : (x y : Bool) → x ≡ true → y ≡ true → (x && y) ≡ true
and_both true y first second = second
and_both false y first second = absurd (cc)

module _ (script : ScriptModel) (lane : Lane) where
  -- the same test of a call passes on both sides
  made_too : (n : ℕ) (x y : ActState) → LooksAlike script lane n x y → is_made x.call ≡ true → is_made y.call ≡ true
  made_too n x y is made =
      sym (made_came y.call)
      ∙ (ap is_made (is.called (open_made x.call made)) ∙ (made_came x.call ∙ made))

  stopped_too : (n : ℕ) (x y : ActState) → LooksAlike script lane n x y → has_stopped x.call ≡ true →
      has_stopped y.call ≡ true
  stopped_too n x y is stopped =
      sym (stopped_came y.call)
      ∙ (ap has_stopped (is.called (open_stopped x.call stopped)) ∙ (stopped_came x.call ∙ stopped))

  done_too : (stops inside : Bool) (n : ℕ) (x y : ActState) → LooksAlike script lane n x y →
      is_call_done stops inside x ≡ true → is_call_done stops inside y ≡ true
  done_too true inside n x y is done = stopped_too n x y is done
  done_too false true n x y is done =
      let parts = and_parts (is_made x.call) (has_ended x.phase) done in
      and_both (is_made y.call) (has_ended y.phase) (made_too n x y is parts.0)
      (ap has_ended (is.executed (executed_ended x.phase parts.1)) ∙ parts.1)
  done_too false false n x y is done =
      let parts = and_parts (is_made x.call) true done in and_both (is_made y.call) true (made_too n x y is parts.0) refl

  may_call : (place : Place) (failed stopped : Bool) (alone among : ContextState) (P : Body → Type 0) →
      IsPlaceOn script lane place → SeesAlike script lane alone.acts among.acts →
      IsSomeAnd (body_at script failed alone place) P → IsSomeAnd (body_at script stopped among place) P
  may_call None failed stopped alone among P on is may = absurd on
  may_call (Some at) failed stopped alone among P on is may =
      subst (λ of. IsSomeAnd (running_body script at.0 at.1 of) P)
      (sym ((is.each at.0).executed (executed_body script at.0 at.1 (phase_at alone at.0) P may))) may

  may_begin : (alone among : ContextState) (o : ℕ) (given : Code) (size : ℕ) → is_inline script o ≡ true →
      SeesAlike script lane alone.acts among.acts → MayBegin script alone o given size →
      MayBegin script among o given size
  may_begin alone among o given size inside is (inl outside) =
      absurd (never (is_ready (phase_at alone o)) ((is.each o).inline inside) (ap is_ready outside.ready.1))
  may_begin alone among o given size inside is (inr may) = inr (record {
    inside = (is.each o).executed (ap is_executed may.inside) ∙ may.inside;
    called = made_too o (act_at alone o) (act_at among o) (is.each o) may.called;
    ok = may.ok;
    empty = may.empty;
  })

  -- what the execution may do alone it may do among others
  pub may_too : (told : Bool) (alone among : State) (shown : Event) → IsOwn script lane shown →
      SeesAlike script lane alone.context.acts among.context.acts → MayHappen script told alone shown →
      MayHappen script told among shown
  may_too told alone among (event.Call a) own is may =
      may_call (parent_of script a) alone.reactor.failed among.reactor.failed alone.context among.context (IsNextOf a) own is may
  may_too told alone among (event.Stop (Some a)) own is may = record {
    stops = may.stops;
    made = made_too a (act_at alone.context a) (act_at among.context a) (is.each a) may.made;
  }
  may_too told alone among (event.Back a) own is may =
      done_too (is_act is_stop script a) (is_inline script a) a (act_at alone.context a) (act_at among.context a) (is.each a) may
  may_too told alone among (event.Begin o code size) own is may =
      may_begin alone.context among.context o code size own.0 is may
  may_too told alone among (event.End o mark) own is may =
      ap (has_finished script o)
      ((is.each o).executed (executed_finished script o (phase_at alone.context o) may)) ∙ may
  may_too told alone among other own is may = absurd own

module _ (script : ScriptModel) (well : IsWellFormed script) (lane : Lane) where
  -- both change at one act
  sees_both : (alone among : List ActState) (a : ℕ) (x y : ActState) → SeesAlike script lane alone among →
      LooksAlike script lane a x y → SeesAlike script lane (slice_set alone a x) (slice_set among a y)
  sees_both alone among a x y is new = record {
    size = length-set among a y ∙ (is.size ∙ sym (length-set alone a x));
    each = both_set (LooksAlike script lane) alone among a x y is.size is.each new;
  }

  -- an event of others changes one act
  sees_other : (alone among : List ActState) (a : ℕ) (y : ActState) → SeesAlike script lane alone among →
      LooksAlike script lane a (act_in alone a) y → SeesAlike script lane alone (slice_set among a y)
  sees_other alone among a y is new = record {
    size = length-set among a y ∙ is.size;
    each = right_set (LooksAlike script lane) alone among a y is.each new;
  }

  -- the body of a handler of the lane comes further
  sees_step : (place : Place) (step : Step) (alone among : ContextState) → SeesAlike script lane alone.acts among.acts →
      SeesAlike script lane (with_progress place step alone).acts (with_progress place step among).acts
  sees_step None step alone among is = is
  sees_step (Some at) step alone among is =
      sees_both alone.acts among.acts at.0 (record (act_at alone at.0) { phase = progressed step (phase_at alone at.0) })
      (record (act_at among at.0) { phase = progressed step (phase_at among at.0) }) is
      (alike_step script well lane step at.0 (act_at alone at.0) (act_at among at.0) (is.each at.0))

  -- that of another handler, or `open`
  step_other : (place : Place) (step : Step) (alone : List ActState) (among : ContextState) →
      IsPlaceOff script lane place → SeesAlike script lane alone among.acts →
      SeesAlike script lane alone (with_progress place step among).acts
  step_other None step alone among off is = is
  step_other (Some at) step alone among off is =
      sees_other alone among.acts at.0 (record (act_at among at.0) { phase = progressed step (phase_at among at.0) }) is
      (other_phase script well lane at.0 (progressed step (phase_at among at.0)) (act_in alone at.0) (act_at among at.0)
      off (is.each at.0))

  sees_phase : (alone among : ContextState) (o : ℕ) (to : ActPhase) → lane_of script o ≡ lane → is_ready to ≡ false →
      SeesAlike script lane alone.acts among.acts →
      SeesAlike script lane (with_phase alone o to).acts (with_phase among o to).acts
  sees_phase alone among o to of unready is =
      sees_both alone.acts among.acts o (record (act_at alone o) { phase = to }) (record (act_at among o) { phase = to }) is
      (alike_phase script well lane o to (act_at alone o) (act_at among o) of unready (is.each o))

  -- a handler of the lane begins
  pub begins_too : (alone among : ContextState) (o : ℕ) (given : Code) (size : ℕ) → lane_of script o ≡ lane →
      SeesAlike script lane alone.acts among.acts →
      SeesAlike script lane (context_after script alone (event.Begin o given size)).acts
      (context_after script among (event.Begin o given size)).acts
  begins_too alone among o given size of is =
      subst (λ acts. SeesAlike script lane acts (after_begin script among o given).acts)
      (sym (acts_spent (is_inline script o) (lane_of script o) (begun alone o given)))
      (subst (SeesAlike script lane (begun alone o given).acts)
      (sym (acts_spent (is_inline script o) (lane_of script o) (begun among o given)))
      (sees_phase alone among o (phase.Running (class_of_code given) no_progress) of refl is))

  returns_too : (alone among : ContextState) (a : ℕ) → SeesAlike script lane alone.acts among.acts →
      SeesAlike script lane (after_return script alone a).acts (after_return script among a).acts
  returns_too alone among a is =
      let one : ContextState =
      with_progress (parent_of script a) step.Back (with_call alone a (returned alone.events (call_at alone a))) in
      let other : ContextState =
      with_progress (parent_of script a) step.Back (with_call among a (returned among.events (call_at among a))) in
      subst (λ acts. SeesAlike script lane acts (after_return script among a).acts)
      (sym (acts_limited script (parent_of script a) a (is_act is_stop script a) one))
      (subst (SeesAlike script lane one.acts)
      (sym (acts_limited script (parent_of script a) a (is_act is_stop script a) other))
      (sees_step (parent_of script a) step.Back (with_call alone a (returned alone.events (call_at alone a)))
      (with_call among a (returned among.events (call_at among a)))
      (sees_both alone.acts among.acts a (record (act_at alone a) { call = returned alone.events (call_at alone a) })
      (record (act_at among a) { call = returned among.events (call_at among a) }) is
      (alike_returned script well lane a alone.events among.events (act_at alone a) (act_at among a) (is.each a)))))

  -- an event of the execution does the same to both
  pub own_keeps : (alone among : ContextState) (shown : Event) → IsOwn script lane shown →
      SeesAlike script lane alone.acts among.acts →
      SeesAlike script lane (context_after script alone shown).acts (context_after script among shown).acts
  own_keeps alone among (event.Call a) own is =
      let one : ContextState = with_progress (parent_of script a) step.Made alone in
      let other : ContextState = with_progress (parent_of script a) step.Made among in
      sees_both one.acts other.acts a (record { call = call.Open alone.events; phase = accepted script a })
      (record { call = call.Open among.events; phase = accepted script a })
      (sees_step (parent_of script a) step.Made alone among is) (alike_called script well lane a alone.events among.events own)
  own_keeps alone among (event.Stop (Some a)) own is =
      sees_both alone.acts among.acts a (record (act_at alone a) { call = stopping (call_at alone a) })
      (record (act_at among a) { call = stopping (call_at among a) }) is
      (alike_stopping script well lane a (act_at alone a) (act_at among a) (is.each a))
  own_keeps alone among (event.Back a) own is = returns_too alone among a is
  own_keeps alone among (event.Begin o code size) own is = begins_too alone among o code size own.1 is
  own_keeps alone among (event.End o mark) own is = sees_phase alone among o phase.Ended own refl is
  own_keeps alone among other own is = absurd own

  returns_other : (alone : List ActState) (among : ContextState) (a : ℕ) →
      IsPlaceOff script lane (parent_of script a) → SeesAlike script lane alone among.acts →
      SeesAlike script lane alone (after_return script among a).acts
  returns_other alone among a off is =
      let back : ContextState = with_call among a (returned among.events (call_at among a)) in
      subst (SeesAlike script lane alone)
      (sym (acts_limited script (parent_of script a) a (is_act is_stop script a)
      (with_progress (parent_of script a) step.Back back)))
      (step_other (parent_of script a) step.Back alone back off
      (sees_other alone among.acts a (record (act_at among a) { call = returned among.events (call_at among a) }) is
      (other_call script well lane a (returned among.events (call_at among a)) (act_in alone a) (act_at among a) off (is.each a))))

  phase_other : (alone : List ActState) (among : ContextState) (o : ℕ) (to : ActPhase) → lane_of script o ≢ lane →
      SeesAlike script lane alone among.acts → SeesAlike script lane alone (with_phase among o to).acts
  phase_other alone among o to off is =
      sees_other alone among.acts o (record (act_at among o) { phase = to }) is
      (other_phase script well lane o to (act_in alone o) (act_at among o) off (is.each o))

  -- an event of others leaves them alike
  pub others_keep : (alone : List ActState) (among : ContextState) (shown : Event) → IsOfOthers script lane among shown →
      SeesAlike script lane alone among.acts → SeesAlike script lane alone (context_after script among shown).acts
  others_keep alone among (event.Call a) others is =
      let before : ContextState = with_progress (parent_of script a) step.Made among in
      sees_other alone before.acts a (record { call = call.Open among.events; phase = accepted script a })
      (step_other (parent_of script a) step.Made alone among others.0 is)
      (other_called script well lane a among.events (act_in alone a) (act_at among a) others.0 others.1 (is.each a))
  others_keep alone among (event.Stop (Some a)) others is =
      sees_other alone among.acts a (record (act_at among a) { call = stopping (call_at among a) }) is
      (other_call script well lane a (stopping (call_at among a)) (act_in alone a) (act_at among a) others (is.each a))
  others_keep alone among (event.Back a) others is = returns_other alone among a others is
  others_keep alone among (event.Begin o code size) others is =
      subst (SeesAlike script lane alone)
      (sym (acts_spent (is_inline script o) (lane_of script o) (begun among o code)))
      (phase_other alone among o (phase.Running (class_of_code code) no_progress) others is)
  others_keep alone among (event.End o mark) others is = phase_other alone among o phase.Ended others is
  others_keep alone among (event.Done o code size) others is =
      let to : ActPhase = phase.Ready code size (cause.Completed among.events (unwrap_or among.turn 0)) in
      sees_other alone among.acts o (record (act_at among o) { phase = to }) is
      (other_done script well lane o to (act_in alone o) (act_at among o) others refl (is.each o))
  others_keep alone among (event.Dropped o mark) others is = phase_other alone among o phase.Dropped others is
  others_keep alone among (event.Stop None) others is = is
  others_keep alone among (event.Take a) others is = is
  others_keep alone among (event.Tick now) others is = is
  others_keep alone among event.Last others is = is
  others_keep alone among event.Fault others is = is
  others_keep alone among event.Ended others is = is
  others_keep alone among event.Stopped others is = is
  others_keep alone among event.Polled others is = is
  others_keep alone among event.Restart others is = is
