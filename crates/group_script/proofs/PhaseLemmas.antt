-- What the events of handlers make of the phase of an operation, and of the rounds.
use Rattle.std.proofs.Common.{◌≡◌, ℕ, Bool, true, false, cond, List, Some, None, inl, inr, length, get_or, set, refl, sym, ap, subst, ◌∙◌}
use Rattle.std.proofs.lemmas.Bool.{cases_eq, cases_lt}
use Rattle.std.proofs.lemmas.List.{get_or-set_other, get_or-set_same, set_past}
use Rattle.asio_types.specs.Code.{class_of_code}
use Rattle.asio_types.specs.declared.code.Code.{Code}
use Rattle.session_script.specs.Lanes.{is_inline, lane_of}
use Rattle.session_script.specs.Script.{Place, ScriptModel, is_stop, parent_of}
use Rattle.history_rules.specs.declared.phase.ActPhase.{ActPhase}
use Rattle.history_rules.specs.declared.phase.ActPhase.TheVariants as phase
use Rattle.history_rules.specs.declared.phase.ActState.{ActState}
use Rattle.history_rules.specs.declared.phase.Step.{Step}
use Rattle.history_rules.specs.declared.phase.Step.TheVariants as step
use Rattle.history_rules.specs.Calls.{accepted, after_call, after_return, limited, progressed, returned, with_progress}
use Rattle.history_rules.specs.Executions.{after_begin, begun}
use Rattle.history_rules.specs.Kinds.{is_act}
use Rattle.history_rules.specs.State.{ContextState, act_at, call_at, fresh, no_progress, phase_at, with_call}
use Rattle.history_rules.specs.Stopping.{spend}

-- how many rounds are closed, and whether handlers are being destroyed
abbrev pub Frame : Type 0
Frame = ℕ × Bool

abbrev pub frame : ContextState → Frame
frame s = (s.closings, s.dropping)

progress-frame : (place : Place) (which : Step) (s : ContextState) → frame (with_progress place which s) ≡ frame s
progress-frame None which s = refl
progress-frame (Some place) which s = refl

limited-frame : (script : ScriptModel) (a : ℕ) (place : Place) (s : ContextState) →
    frame (limited script a place s) ≡ frame s
limited-frame script a None s = refl
limited-frame script a (Some place) s = refl

limited-acts : (script : ScriptModel) (a : ℕ) (place : Place) (s : ContextState) →
    (limited script a place s).acts ≡ s.acts
limited-acts script a None s = refl
limited-acts script a (Some place) s = refl

-- one of two states, which agree in what is asked
pick : {X : Type 0} (f : ContextState → X) (b : Bool) (one two : ContextState) → f one ≡ f two →
    f (cond b one two) ≡ f two
pick f true one two same = same
pick f false one two same = refl

pub call-frame : (script : ScriptModel) (s : ContextState) (a : ℕ) → frame (after_call script s a) ≡ frame s
call-frame script s a = progress-frame (parent_of script a) (step.Made) s

-- the state as it is when a call has returned, before the allowances change
abbrev moved_by : ScriptModel → ContextState → ℕ → ContextState
moved_by script s a =
    with_progress (parent_of script a) (step.Back) (with_call s a (returned s.events (call_at s a)))

pub return-frame : (script : ScriptModel) (s : ContextState) (a : ℕ) → frame (after_return script s a) ≡ frame s
return-frame script s a =
    let moved : ContextState = moved_by script s a in
    pick frame (is_act is_stop script a) (limited script a (parent_of script a) moved) moved
    (limited-frame script a (parent_of script a) moved)
    ∙ progress-frame (parent_of script a) (step.Back) (with_call s a (returned s.events (call_at s a)))

pub begin-frame : (script : ScriptModel) (s : ContextState) (p : ℕ) (given : Code) →
    frame (after_begin script s p given) ≡ frame s
begin-frame script s p given =
    pick frame (is_inline script p) (begun s p given) (spend (lane_of script p) (begun s p given)) refl

-- whatever is said of the phase of operation o, if it is kept where a body comes further
module _ (script : ScriptModel) (o : ℕ) (P : ActPhase → Type 0)
    (further : (which : Step) (p : ActPhase) → P p → P (progressed which p)) where
  pub set-phase : (acts : List ActState) (n : ℕ) (new : ActState) → P (get_or acts o fresh).phase →
      (n ≡ o → P new.phase) → P (get_or (set acts n new) o fresh).phase
  set-phase acts n new old here = elim (cases_eq o n) [
    | inl same ↦ elim (cases_lt n (length acts)) [
      | inl within ↦
          subst P (sym (ap (λ k. (get_or (set acts n new) k fresh).phase) same
          ∙ ap (λ (each : ActState). each.phase) (get_or-set_same acts n new fresh within))) (here (sym same))
      | inr past ↦
          subst P (sym (ap (λ (all : List ActState). (get_or all o fresh).phase) (set_past acts n new past))) old
    ]
    | inr other ↦
        subst P (sym (ap (λ (each : ActState). each.phase) (get_or-set_other acts n o new fresh other))) old
  ]

  progress-phase : (place : Place) (which : Step) (s : ContextState) → P (phase_at s o) →
      P (phase_at (with_progress place which s) o)
  progress-phase None which s is = is
  progress-phase (Some place) which s is =
      set-phase s.acts place.0 (record (act_at s place.0) { phase = progressed which (phase_at s place.0) }) is
      (λ same. subst P (sym (ap (λ n. progressed which (phase_at s n)) same)) (further which (phase_at s o) is))

  pub call-phase : P (accepted script o) → (s : ContextState) (a : ℕ) → P (phase_at s o) →
      P (phase_at (after_call script s a) o)
  call-phase asked s a is =
      set-phase (with_progress (parent_of script a) (step.Made) s).acts a _
      (progress-phase (parent_of script a) (step.Made) s is) (λ same. subst P (sym (ap (accepted script) same)) asked)

  -- only the call of an act changes
  pub with_call-phase : (acts : List ActState) (a : ℕ) (new : ActState) → new.phase ≡ (get_or acts a fresh).phase →
      P (get_or acts o fresh).phase → P (get_or (set acts a new) o fresh).phase
  with_call-phase acts a new same is =
      set-phase acts a new is (λ it. subst P (sym (same ∙ ap (λ n. (get_or acts n fresh).phase) it)) is)

  pub return-phase : (s : ContextState) (a : ℕ) → P (phase_at s o) → P (phase_at (after_return script s a) o)
  return-phase s a is =
      let called : ContextState = with_call s a (returned s.events (call_at s a)) in
      let moved : ContextState = moved_by script s a in
      subst P (sym (ap (λ (all : List ActState). (get_or all o fresh).phase)
      (pick (λ (t : ContextState). t.acts) (is_act is_stop script a) (limited script a (parent_of script a) moved) moved
      (limited-acts script a (parent_of script a) moved))))
      (progress-phase (parent_of script a) (step.Back) called
      (with_call-phase s.acts a (record (act_at s a) { call = returned s.events (call_at s a) }) refl is))

  pub begin-phase : (s : ContextState) (p : ℕ) (given : Code) →
      (p ≡ o → P (phase.Running (class_of_code given) no_progress)) → P (phase_at s o) →
      P (phase_at (after_begin script s p given) o)
  begin-phase s p given here is =
      let after : ContextState = begun s p given in
      subst P (sym (ap (λ (all : List ActState). (get_or all o fresh).phase)
      (pick (λ (t : ContextState). t.acts) (is_inline script p) after (spend (lane_of script p) after) refl)))
      (set-phase s.acts p (record (act_at s p) { phase = phase.Running (class_of_code given) no_progress }) is here)
