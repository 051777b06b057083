-- How a context changes in one body, at one act, and by a stop.
use Rattle.std.proofs.Common.{◌≡◌, ◌≢◌, ℕ, ◌<◌, ◌≤◌, Bool, true, false, cond, List, Some, None, inl, inr, length, refl, sym, ap, subst, ◌∙◌, arith}
use Rattle.std.specs.List.{slice_index_or, slice_set}
use Rattle.std.proofs.lemmas.Bool.{cases_eq, cases_lt}
use Rattle.std.proofs.lemmas.List.{get_or-set_same, get_or-set_other, get_or_past, length-set}
use Rattle.asio_types.specs.declared.event.Event.{Event}
use Rattle.session_script.specs.Script.{Place, ScriptModel}
use Rattle.history_rules.specs.Calls.{limited, progressed, stepped, with_progress}
use Rattle.history_rules.specs.State.{ContextState, act_at, call_at, fresh, phase_at}
use Rattle.history_rules.specs.declared.phase.ActPhase.{ActPhase}
use Rattle.history_rules.specs.declared.phase.ActPhase.TheVariants as phase
use Rattle.history_rules.specs.declared.phase.ActState.{ActState}
use Rattle.history_rules.specs.declared.phase.CallPhase.{CallPhase}
use Rattle.history_rules.specs.declared.phase.Step.{Step}
use Rattle.history_laws.proofs.BodyLemmas.{IsBehind}
use Rattle.history_laws.proofs.Moves.{Moves, further, is_about, is_calling, stays}

pub at_changed : (acts : List ActState) (n : ℕ) (new : ActState) → n < length acts →
    slice_index_or (slice_set acts n new) n fresh ≡ new
at_changed acts n new within = get_or-set_same acts n new fresh within

pub at_other : (acts : List ActState) (a n : ℕ) (new : ActState) → n ≢ a →
    slice_index_or (slice_set acts a new) n fresh ≡ slice_index_or acts n fresh
at_other acts a n new other = get_or-set_other acts a n new fresh other

-- an act that became something is one of the script's
pub is_there : (c : ContextState) (n : ℕ) → phase_at c n ≢ phase.Absent → n < length c.acts
is_there c n became = elim (cases_lt n (length c.acts)) [
  | inl within ↦ within
  | inr beyond ↦ absurd (became (ap (λ (act : ActState). act.phase) (get_or_past c.acts n fresh beyond)))
]

-- nothing changes but the allowances
pub record IsLimited (c t : ContextState) : Type 0 where
  pub acts : t.acts ≡ c.acts
  pub opening : t.opening ≡ c.opening
  pub closings : t.closings ≡ c.closings
  pub dropping : t.dropping ≡ c.dropping
  pub stopped : t.stopped ≡ c.stopped
  pub restarted : t.restarted ≡ c.restarted
  pub events : t.events ≡ c.events
  pub turn : t.turn ≡ c.turn

pub limited_by : (script : ScriptModel) (place : Place) (a : ℕ) (stops : Bool) (c : ContextState) →
    IsLimited c (cond stops (limited script a place c) c)
limited_by script None a true c = record {
  acts = refl;
  opening = refl;
  closings = refl;
  dropping = refl;
  stopped = refl;
  restarted = refl;
  events = refl;
  turn = refl;
}
limited_by script (Some at) a true c = record {
  acts = refl;
  opening = refl;
  closings = refl;
  dropping = refl;
  stopped = refl;
  restarted = refl;
  events = refl;
  turn = refl;
}
limited_by script place a false c = record {
  acts = refl;
  opening = refl;
  closings = refl;
  dropping = refl;
  stopped = refl;
  restarted = refl;
  events = refl;
  turn = refl;
}

-- what a body's next step leaves: all but its own progress
pub record IsSteps (c t : ContextState) : Type 0 where
  pub count : length t.acts ≡ length c.acts
  pub closings : t.closings ≡ c.closings
  pub dropping : t.dropping ≡ c.dropping
  pub stopped : t.stopped ≡ c.stopped
  pub restarted : t.restarted ≡ c.restarted
  pub events : t.events ≡ c.events
  pub turn : t.turn ≡ c.turn

pub steps_by : (place : Place) (step : Step) (c : ContextState) → IsSteps c (with_progress place step c)
steps_by None step c = record {
  count = refl;
  closings = refl;
  dropping = refl;
  stopped = refl;
  restarted = refl;
  events = refl;
  turn = refl;
}
steps_by (Some at) step c = record {
  count = length-set c.acts at.0 (record (act_at c at.0) { phase = progressed step (phase_at c at.0) });
  closings = refl;
  dropping = refl;
  stopped = refl;
  restarted = refl;
  events = refl;
  turn = refl;
}

-- an act behind the operation of the body is as it was
pub steps_behind : (place : Place) (step : Step) (c : ContextState) (n : ℕ) → IsBehind place n →
    act_at (with_progress place step c) n ≡ act_at c n
steps_behind None step c n behind = refl
steps_behind (Some at) step c n behind =
    at_other c.acts at.0 n (record (act_at c at.0) { phase = progressed step (phase_at c at.0) })
    (λ same. absurd (omega (arith, behind, same)))

-- the calls that were made don't become fewer
abbrev pub RisesIn : Step → ActPhase → Type 0
RisesIn step (phase.Running class progress) = progress.made ≤ (stepped step progress).made
RisesIn step _ = Unit {0}

abbrev pub Rises : Step → ContextState → Place → Type 0
Rises step c None = Unit {0}
Rises step c (Some at) = RisesIn step (phase_at c at.0)

module _ (script : ScriptModel) (e : Event) (calling : is_calling e ≡ true) (step : Step) where
  phase_steps : (n : ℕ) (made : CallPhase) (p : ActPhase) → is_about n e ≡ false → RisesIn step p →
      Moves script n e (record { call = made; phase = p }) (record { call = made; phase = progressed step p })
  phase_steps n made (phase.Running class progress) isnt rises = further isnt calling rises
  phase_steps n made phase.Absent isnt rises = stays isnt
  phase_steps n made phase.Inside isnt rises = stays isnt
  phase_steps n made phase.Requested isnt rises = stays isnt
  phase_steps n made (phase.Ready given size why) isnt rises = stays isnt
  phase_steps n made phase.Ended isnt rises = stays isnt
  phase_steps n made phase.Dropped isnt rises = stays isnt
  phase_steps n made phase.Asked isnt rises = stays isnt

  -- what the next step of a body makes of each other act
  pub others_step : (place : Place) (c : ContextState) → Rises step c place → (n : ℕ) → is_about n e ≡ false →
      Moves script n e (act_at c n) (act_at (with_progress place step c) n)
  others_step None c rises n isnt = stays isnt
  others_step (Some at) c rises n isnt = elim (cases_eq n at.0) [
    | inl same ↦
        subst (λ (n : ℕ). Moves script n e (act_at c n) (act_at (with_progress (Some at) step c) n)) (sym same)
        (elim (cases_lt at.0 (length c.acts)) [
          | inl within ↦
              subst (λ (act : ActState). Moves script at.0 e (act_at c at.0) act) (sym (at_changed c.acts at.0 new within))
              (phase_steps at.0 (call_at c at.0) (phase_at c at.0) (ap (λ n. is_about n e) (sym same) ∙ isnt) rises)
          | inr past ↦
              subst (λ (act : ActState). Moves script at.0 e (act_at c at.0) act)
              (get_or_past c.acts at.0 fresh past
              ∙ sym (get_or_past (slice_set c.acts at.0 new) at.0 fresh (omega (arith, length-set c.acts at.0 new, past))))
              (stays (ap (λ n. is_about n e) (sym same) ∙ isnt))
        ])
    | inr other ↦
        subst (λ (act : ActState). Moves script n e (act_at c n) act) (sym (at_other c.acts at.0 n new other)) (stays isnt)
  ]
    where
      new : ActState
      new = record (act_at c at.0) { phase = progressed step (phase_at c at.0) }
