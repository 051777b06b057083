-- A posting that was called, and has neither begun nor was destroyed, is ready as its call made it.
use Rattle.std.proofs.Common.{◌≡◌, ℕ, Bool, true, false, cond, List, None, Some, refl, sym, ap, subst, ◌∙◌}
use Rattle.std.specs.List.{slice_set}
use Rattle.std.specs.Option.{unwrap_or}
use Rattle.asio_types.specs.Code.{class_of_code}
use Rattle.asio_types.specs.declared.code.Code.TheVariants as code
use Rattle.asio_types.specs.declared.event.Event.{Event}
use Rattle.asio_types.specs.declared.event.Event.TheVariants as event
use Rattle.session_script.specs.Lanes.{is_inline, lane_of}
use Rattle.session_script.specs.Script.{Place, ScriptModel, is_operation, is_stop, parent_of}
use Rattle.history_rules.specs.Calls.{accepted, progressed, returned, stopping, with_progress}
use Rattle.history_rules.specs.Executions.{begun}
use Rattle.history_rules.specs.Kinds.{is_act, is_control, is_posting}
use Rattle.history_rules.specs.Legal.{context_after}
use Rattle.history_rules.specs.State.{ContextState, act_at, call_at, no_progress, phase_at, with_call, with_phase}
use Rattle.history_rules.specs.declared.phase.ActPhase.{ActPhase}
use Rattle.history_rules.specs.declared.phase.ActPhase.TheVariants as phase
use Rattle.history_rules.specs.declared.phase.ActState.{ActState}
use Rattle.history_rules.specs.declared.phase.CallPhase.{CallPhase}
use Rattle.history_rules.specs.declared.phase.CallPhase.TheVariants as call
use Rattle.history_rules.specs.declared.phase.Cause.TheVariants as cause
use Rattle.history_rules.specs.declared.phase.Step.{Step}
use Rattle.history_rules.specs.declared.phase.Step.TheVariants as step
use Rattle.execution_laws.specs.Kinds.{was_called}
use Rattle.execution_laws.specs.Order.{has_begun}
use Rattle.history_merge.proofs.EachActLemmas.{act_in, right_set}
use Rattle.history_merge.proofs.FrameLemmas.{acts_limited, acts_spent}
use Rattle.history_merge.proofs.KindLemmas.{called_returned, called_stopping}
use Rattle.history_merge.proofs.OrderlyLemmas.{IsExpected}

-- the handler is ready as a call makes it, or has begun, or was destroyed
pub data Stands : ActPhase → Type 0 where
  is_ready : Stands (phase.Ready code.Ok 0 cause.Posted)
  has_run : {of : ActPhase} → has_begun of ≡ true → Stands of
  was_dropped : Stands phase.Dropped

pub record IsPosted (script : ScriptModel) (n : ℕ) (act : ActState) : Type 0 where
  pub stands : is_act is_posting script n ≡ true → is_inline script n ≡ false → was_called act.call ≡ true →
      Stands act.phase

abbrev pub ArePosted : ScriptModel → List ActState → Type 0
ArePosted script acts = (n : ℕ) → IsPosted script n (act_in acts n)

-- a posting is ready at once
posted_by : (inline posting operation control : Bool) → posting ≡ true → inline ≡ false →
    Stands (cond inline phase.Inside (cond posting (phase.Ready code.Ok 0 cause.Posted)
    (cond operation phase.Requested (cond control phase.Asked phase.Absent))))
posted_by true posting operation control posts outside = absurd (cc)
posted_by false true operation control posts outside = is_ready
posted_by false false operation control posts outside = absurd (cc)

stands_step : (step : Step) (of : ActPhase) → Stands of → Stands (progressed step of)
stands_step step (phase.Running class progress) stands = has_run refl
stands_step step other stands = stands

never_asked : (of : ActPhase) → Stands of → of ≡ phase.Requested → ⊥
never_asked _ is_ready is = cc
never_asked of (has_run begun) is = let wrong : true ≡ false = sym begun ∙ ap has_begun is in cc
never_asked _ was_dropped is = cc

module _ (script : ScriptModel) where
  set_posted : (acts : List ActState) (a : ℕ) (x : ActState) → ArePosted script acts → IsPosted script a x →
      ArePosted script (slice_set acts a x)
  set_posted acts a x all new = right_set (λ n y. IsPosted script n) acts acts a x all new

  progress_posted : (place : Place) (step : Step) (s : ContextState) → ArePosted script s.acts →
      ArePosted script (with_progress place step s).acts
  progress_posted None step s all = all
  progress_posted (Some at) step s all =
      set_posted s.acts at.0 (record (act_at s at.0) { phase = progressed step (phase_at s at.0) }) all
      (record { stands = λ posts outside called. stands_step step (phase_at s at.0) ((all at.0).stands posts outside called) })

  call_posted : (s : ContextState) (a : ℕ) (to : CallPhase) → was_called to ≡ was_called (call_at s a) →
      ArePosted script s.acts → ArePosted script (with_call s a to).acts
  call_posted s a to same all =
      set_posted s.acts a (record (act_at s a) { call = to }) all
      (record { stands = λ posts outside called. (all a).stands posts outside (sym same ∙ called) })

  phase_posted : (s : ContextState) (o : ℕ) (to : ActPhase) →
      (is_act is_posting script o ≡ true → is_inline script o ≡ false → was_called (call_at s o) ≡ true → Stands to) →
      ArePosted script s.acts → ArePosted script (with_phase s o to).acts
  phase_posted s o to new all = set_posted s.acts o (record (act_at s o) { phase = to }) all (record { stands = new })

  -- each event keeps it
  pub posted_kept : (s : ContextState) (shown : Event) → IsExpected s shown → ArePosted script s.acts →
      ArePosted script (context_after script s shown).acts
  posted_kept s (event.Call a) expected all =
      set_posted (with_progress (parent_of script a) step.Made s).acts a
      (record { call = call.Open s.events; phase = accepted script a })
      (progress_posted (parent_of script a) step.Made s all)
      (record {
        stands = λ posts outside called.
            posted_by (is_inline script a) (is_act is_posting script a) (is_act is_operation script a)
            (is_act is_control script a) posts outside;
      })
  posted_kept s (event.Stop (Some a)) expected all =
      call_posted s a (stopping (call_at s a)) (called_stopping (call_at s a)) all
  posted_kept s (event.Back a) expected all =
      let to : CallPhase = returned s.events (call_at s a) in
      let back : ContextState = with_call s a to in
      subst (ArePosted script)
      (sym (acts_limited script (parent_of script a) a (is_act is_stop script a)
      (with_progress (parent_of script a) step.Back back)))
      (progress_posted (parent_of script a) step.Back back
      (call_posted s a to (called_returned s.events (call_at s a)) all))
  posted_kept s (event.Begin o given size) expected all =
      subst (ArePosted script) (sym (acts_spent (is_inline script o) (lane_of script o) (begun s o given)))
      (phase_posted s o (phase.Running (class_of_code given) no_progress) (λ posts outside called. has_run refl) all)
  posted_kept s (event.End o mark) expected all =
      phase_posted s o phase.Ended (λ posts outside called. has_run refl) all
  posted_kept s (event.Done o given size) expected all =
      phase_posted s o (phase.Ready given size (cause.Completed s.events (unwrap_or s.turn 0)))
      (λ posts outside called.
      absurd (never_asked (phase_at s o) ((all o).stands posts outside called) expected)) all
  posted_kept s (event.Dropped o mark) expected all =
      phase_posted s o phase.Dropped (λ posts outside called. was_dropped) all
  posted_kept s (event.Stop None) expected all = all
  posted_kept s other expected all = all
