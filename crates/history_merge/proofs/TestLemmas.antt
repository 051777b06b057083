-- What an event leaves of a test of each act's phase that doesn't look at how far a body has come.
use Rattle.std.proofs.Common.{◌≡◌, ℕ, Bool, List, None, Some, refl, sym, subst, ◌∙◌}
use Rattle.std.specs.List.{slice_set}
use Rattle.asio_types.specs.Code.{class_of_code}
use Rattle.asio_types.specs.declared.code.Code.{Code}
use Rattle.asio_types.specs.declared.event.Event.TheVariants as event
use Rattle.session_script.specs.Lanes.{is_inline, lane_of}
use Rattle.session_script.specs.Script.{Place, ScriptModel, is_stop, parent_of}
use Rattle.history_rules.specs.Calls.{accepted, progressed, returned, stopping, with_progress}
use Rattle.history_rules.specs.Executions.{begun}
use Rattle.history_rules.specs.Kinds.{is_act}
use Rattle.history_rules.specs.Legal.{context_after}
use Rattle.history_rules.specs.State.{ContextState, act_at, call_at, no_progress, phase_at, with_call, with_phase}
use Rattle.history_rules.specs.declared.phase.ActPhase.{ActPhase}
use Rattle.history_rules.specs.declared.phase.ActPhase.TheVariants as phase
use Rattle.history_rules.specs.declared.phase.ActState.{ActState}
use Rattle.history_rules.specs.declared.phase.CallPhase.TheVariants as call
use Rattle.history_rules.specs.declared.phase.Step.{Step}
use Rattle.history_rules.specs.declared.phase.Step.TheVariants as step
use Rattle.history_merge.proofs.EachActLemmas.{Each, right_set}
use Rattle.history_merge.proofs.FrameLemmas.{acts_limited, acts_spent}

-- an act passes the test as it did, where it isn't away
pub record IsSame (test : ℕ → ActPhase → Bool) (Away : ℕ → Type 0) (n : ℕ) (x y : ActState) : Type 0 where
  pub same : (Away n → ⊥) → test n y.phase ≡ test n x.phase

module _ (test : ℕ → ActPhase → Bool)
    (blind : (n : ℕ) (step : Step) (of : ActPhase) → test n (progressed step of) ≡ test n of)
    (script : ScriptModel) (s : ContextState) (Away : ℕ → Type 0) where
  abbrev pub Same : List ActState → Type 0
  Same acts = Each (IsSame test Away) s.acts acts

  pub base_same : Same s.acts
  base_same n = record { same = λ here. refl }

  pub set_same : (acts : List ActState) (a : ℕ) (y : ActState) → Same acts →
      ((Away a → ⊥) → test a y.phase ≡ test a (phase_at s a)) → Same (slice_set acts a y)
  set_same acts a y each same = right_set (IsSame test Away) s.acts acts a y each (record { same = same })

  pub progress_same : (place : Place) (step : Step) (t : ContextState) → Same t.acts →
      Same (with_progress place step t).acts
  progress_same None step t each = each
  progress_same (Some at) step t each =
      set_same t.acts at.0 (record (act_at t at.0) { phase = progressed step (phase_at t at.0) }) each
      (λ here. blind at.0 step (phase_at t at.0) ∙ (each at.0).same here)

  -- a call, where it is of an act that is away or passes alike as it is accepted
  pub call_same : (a : ℕ) → ((Away a → ⊥) → test a (accepted script a) ≡ test a (phase_at s a)) →
      Same (context_after script s (event.Call a)).acts
  call_same a same =
      set_same (with_progress (parent_of script a) step.Made s).acts a
      (record { call = call.Open s.events; phase = accepted script a })
      (progress_same (parent_of script a) step.Made s base_same) same

  pub stop_same : (a : ℕ) → Same (context_after script s (event.Stop (Some a))).acts
  stop_same a = set_same s.acts a (record (act_at s a) { call = stopping (call_at s a) }) base_same (λ here. refl)

  pub back_same : (a : ℕ) → Same (context_after script s (event.Back a)).acts
  back_same a =
      let back : ContextState = with_call s a (returned s.events (call_at s a)) in
      subst Same
      (sym (acts_limited script (parent_of script a) a (is_act is_stop script a)
      (with_progress (parent_of script a) step.Back back)))
      (progress_same (parent_of script a) step.Back back
      (set_same s.acts a (record (act_at s a) { call = returned s.events (call_at s a) }) base_same (λ here. refl)))

  -- an act comes to this
  pub phase_same : (o : ℕ) (to : ActPhase) → ((Away o → ⊥) → test o to ≡ test o (phase_at s o)) →
      Same (with_phase s o to).acts
  phase_same o to same = set_same s.acts o (record (act_at s o) { phase = to }) base_same same

  pub begin_same : (o : ℕ) (given : Code) (size : ℕ) →
      ((Away o → ⊥) → test o (phase.Running (class_of_code given) no_progress) ≡ test o (phase_at s o)) →
      Same (context_after script s (event.Begin o given size)).acts
  begin_same o given size same =
      subst Same (sym (acts_spent (is_inline script o) (lane_of script o) (begun s o given)))
      (phase_same o (phase.Running (class_of_code given) no_progress) same)
