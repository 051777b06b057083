-- What each event makes of a context, and what it leaves as it was: acts, bodies, rounds and allowances.
use Rattle.std.proofs.Common.{◌≡◌, ◌≢◌, ℕ, ◌<◌, Bool, true, false, cond, Option, Some, None, length, refl, sym, ap, ◌∙◌, arith}
use Rattle.std.specs.Prelude.{slice_get}
use Rattle.std.specs.Option.{unwrap_or}
use Rattle.std.proofs.Math.ListN.{length-set}
use Rattle.asio_types.specs.Code.{class_of_code}
use Rattle.asio_types.specs.Faults.{one_more}
use Rattle.asio_types.specs.declared.code.Class.{Class}
use Rattle.asio_types.specs.declared.code.Code.{Code}
use Rattle.asio_types.specs.declared.event.Event.{Event}
use Rattle.asio_types.specs.declared.event.Event.TheVariants as event
use Rattle.asio_types.specs.declared.number.Lane.{Lane}
use Rattle.asio_types.specs.declared.number.Lane.TheVariants as lane
use Rattle.session_script.specs.Script.{Place, ScriptModel, is_stop, parent_of}
use Rattle.session_script.specs.Lanes.{is_inline, lane_of}
use Rattle.history_rules.specs.Calls.{accepted, after_call, after_return, after_stop, limited, progressed, returned, stopping, with_progress}
use Rattle.history_rules.specs.Executions.{after_begin, begun}
use Rattle.history_rules.specs.Kinds.{is_act}
use Rattle.history_rules.specs.Legal.{context_after}
use Rattle.history_rules.specs.Rounds.{RoundIsOpen, restarts}
use Rattle.history_rules.specs.State.{Allowances, ContextState, act_at, call_at, each_lane, no_progress, phase_at, with_call, with_phase}
use Rattle.history_rules.specs.Stopping.{after_stop_on, allowance_of, less_one, spend, with_allowance}
use Rattle.history_rules.specs.declared.phase.ActPhase.{ActPhase}
use Rattle.history_rules.specs.declared.phase.ActPhase.TheVariants as phase
use Rattle.history_rules.specs.declared.phase.ActState.{ActState}
use Rattle.history_rules.specs.declared.phase.Allowance.TheVariants as allowance
use Rattle.history_rules.specs.declared.phase.CallPhase.TheVariants as call
use Rattle.history_rules.specs.declared.phase.Cause.TheVariants as cause
use Rattle.history_rules.specs.declared.phase.Progress.{Progress}
use Rattle.history_rules.specs.declared.phase.Step.{Step}
use Rattle.history_rules.specs.declared.phase.Step.TheVariants as step
use Rattle.execution_laws.proofs.StateLemmas.{IsElsewhere, IsHandlers, act_at-other, act_at-same}
use Rattle.history_merge.proofs.EachActLemmas.{act_in}

-- the allowances that a stop or a begin changes are no matter to acts
pub acts_limited : (script : ScriptModel) (place : Place) (a : ℕ) (stops : Bool) (s : ContextState) →
    (cond stops (limited script a place s) s).acts ≡ s.acts
acts_limited script None a true s = refl
acts_limited script (Some at) a true s = refl
acts_limited script place a false s = refl

pub acts_spent : (inline : Bool) (at : Lane) (s : ContextState) → (cond inline s (spend at s)).acts ≡ s.acts
acts_spent true at s = refl
acts_spent false at s = refl

-- no act comes or goes
pub length-progress : (place : Place) (step : Step) (s : ContextState) →
    length (with_progress place step s).acts ≡ length s.acts
length-progress None step s = refl
length-progress (Some at) step s =
    length-set s.acts at.0 (record (act_at s at.0) { phase = progressed step (phase_at s at.0) })

pub length-after : (script : ScriptModel) (s : ContextState) (shown : Event) →
    length (context_after script s shown).acts ≡ length s.acts
length-after script s (event.Call a) =
    length-set (with_progress (parent_of script a) step.Made s).acts a
    (record { call = call.Open s.events; phase = accepted script a })
    ∙ length-progress (parent_of script a) step.Made s
length-after script s (event.Stop (Some a)) = length-set s.acts a (record (act_at s a) { call = stopping (call_at s a) })
length-after script s (event.Back a) =
    let back : ContextState = with_call s a (returned s.events (call_at s a)) in
    ap length (acts_limited script (parent_of script a) a (is_act is_stop script a)
    (with_progress (parent_of script a) step.Back back))
    ∙ (length-progress (parent_of script a) step.Back back
    ∙ length-set s.acts a (record (act_at s a) { call = returned s.events (call_at s a) }))
length-after script s (event.Begin o code size) =
    ap length (acts_spent (is_inline script o) (lane_of script o) (begun s o code))
    ∙ length-set s.acts o (record (act_at s o) { phase = phase.Running (class_of_code code) no_progress })
length-after script s (event.End o mark) = length-set s.acts o (record (act_at s o) { phase = phase.Ended })
length-after script s (event.Done o code size) =
    length-set s.acts o (record (act_at s o) {
      phase = phase.Ready code size (cause.Completed s.events (unwrap_or s.turn 0));
    })
length-after script s (event.Dropped o mark) = length-set s.acts o (record (act_at s o) { phase = phase.Dropped })
length-after script s (event.Stop None) = refl
length-after script s (event.Take a) = refl
length-after script s (event.Tick now) = refl
length-after script s event.Last = refl
length-after script s event.Fault = refl
length-after script s event.Ended = refl
length-after script s event.Stopped = refl
length-after script s event.Polled = refl
length-after script s event.Restart = refl

-- the event is of another act, and of another one's body
abbrev pub IsUntouched : ScriptModel → Event → ℕ → Type 0
IsUntouched script (event.Call a) n = (n ≢ a) × IsElsewhere (parent_of script a) n
IsUntouched script (event.Stop (Some a)) n = n ≢ a
IsUntouched script (event.Back a) n = (n ≢ a) × IsElsewhere (parent_of script a) n
IsUntouched script (event.Begin o code size) n = n ≢ o
IsUntouched script (event.End o mark) n = n ≢ o
IsUntouched script (event.Done o code size) n = n ≢ o
IsUntouched script (event.Dropped o mark) n = n ≢ o
IsUntouched script _ n = Unit {0}

progress-other : (place : Place) (step : Step) (s : ContextState) (n : ℕ) → IsElsewhere place n →
    act_at (with_progress place step s) n ≡ act_at s n
progress-other None step s n away = refl
progress-other (Some at) step s n away =
    act_at-other s at.0 (record (act_at s at.0) { phase = progressed step (phase_at s at.0) }) n away

pub untouched : (script : ScriptModel) (s : ContextState) (shown : Event) (n : ℕ) → IsUntouched script shown n →
    act_at (context_after script s shown) n ≡ act_at s n
untouched script s (event.Call a) n away =
    act_at-other (with_progress (parent_of script a) step.Made s) a
    (record { call = call.Open s.events; phase = accepted script a }) n away.0
    ∙ progress-other (parent_of script a) step.Made s n away.1
untouched script s (event.Stop (Some a)) n away =
    act_at-other s a (record (act_at s a) { call = stopping (call_at s a) }) n away
untouched script s (event.Back a) n away =
    let back : ContextState = with_call s a (returned s.events (call_at s a)) in
    ap (λ acts. act_in acts n) (acts_limited script (parent_of script a) a (is_act is_stop script a)
    (with_progress (parent_of script a) step.Back back))
    ∙ (progress-other (parent_of script a) step.Back back n away.1
    ∙ act_at-other s a (record (act_at s a) { call = returned s.events (call_at s a) }) n away.0)
untouched script s (event.Begin o code size) n away =
    ap (λ acts. act_in acts n) (acts_spent (is_inline script o) (lane_of script o) (begun s o code))
    ∙ act_at-other s o (record (act_at s o) { phase = phase.Running (class_of_code code) no_progress }) n away
untouched script s (event.End o mark) n away = act_at-other s o (record (act_at s o) { phase = phase.Ended }) n away
untouched script s (event.Done o code size) n away =
    act_at-other s o (record (act_at s o) {
      phase = phase.Ready code size (cause.Completed s.events (unwrap_or s.turn 0));
    }) n away
untouched script s (event.Dropped o mark) n away =
    act_at-other s o (record (act_at s o) { phase = phase.Dropped }) n away
untouched script s (event.Stop None) n away = refl
untouched script s (event.Take a) n away = refl
untouched script s (event.Tick now) n away = refl
untouched script s event.Last n away = refl
untouched script s event.Fault n away = refl
untouched script s event.Ended n away = refl
untouched script s event.Stopped n away = refl
untouched script s event.Polled n away = refl
untouched script s event.Restart n away = refl

-- what becomes of the act that an event is of
module _ (script : ScriptModel) (s : ContextState) (a : ℕ) (within : a < length s.acts) where
  pub called_act : act_at (after_call script s a) a ≡ record { call = call.Open s.events; phase = accepted script a }
  called_act =
      act_at-same (with_progress (parent_of script a) step.Made s) a
      (record { call = call.Open s.events; phase = accepted script a })
      (omega (arith, within, length-progress (parent_of script a) step.Made s))

  pub stopping_act : act_at (after_stop s a) a ≡ record (act_at s a) { call = stopping (call_at s a) }
  stopping_act = act_at-same s a (record (act_at s a) { call = stopping (call_at s a) }) within

  pub returned_act : IsElsewhere (parent_of script a) a →
      act_at (after_return script s a) a ≡ record (act_at s a) { call = returned s.events (call_at s a) }
  returned_act away =
      let back : ContextState = with_call s a (returned s.events (call_at s a)) in
      ap (λ acts. act_in acts a) (acts_limited script (parent_of script a) a (is_act is_stop script a)
      (with_progress (parent_of script a) step.Back back))
      ∙ (progress-other (parent_of script a) step.Back back a away
      ∙ act_at-same s a (record (act_at s a) { call = returned s.events (call_at s a) }) within)

  pub begun_act : (code : Code) →
      act_at (after_begin script s a code) a ≡ record (act_at s a) { phase = phase.Running (class_of_code code) no_progress }
  begun_act code =
      ap (λ acts. act_in acts a) (acts_spent (is_inline script a) (lane_of script a) (begun s a code))
      ∙ act_at-same s a (record (act_at s a) { phase = phase.Running (class_of_code code) no_progress }) within

  pub phase_act : (to : ActPhase) → act_at (with_phase s a to) a ≡ record (act_at s a) { phase = to }
  phase_act to = act_at-same s a (record (act_at s a) { phase = to }) within

-- and of the operation whose body calls it
module _ (script : ScriptModel) (s : ContextState) (a caller : ℕ) (class : Class)
    (under : parent_of script a ≡ Some (caller, class)) (other : caller ≢ a) (within : caller < length s.acts) where
  stepped_act : (step : Step) (t : ContextState) → caller < length t.acts →
      act_at (with_progress (parent_of script a) step t) caller
      ≡ record (act_at t caller) { phase = progressed step (phase_at t caller) }
  stepped_act step t within =
      ap (λ place. act_at (with_progress place step t) caller) under
      ∙ act_at-same t caller (record (act_at t caller) { phase = progressed step (phase_at t caller) }) within

  pub calling_act :
      act_at (after_call script s a) caller ≡ record (act_at s caller) { phase = progressed step.Made (phase_at s caller) }
  calling_act =
      act_at-other (with_progress (parent_of script a) step.Made s) a
      (record { call = call.Open s.events; phase = accepted script a })
      caller other
      ∙ stepped_act step.Made s within

  pub resumed_act :
      act_at (after_return script s a) caller ≡ record (act_at s caller) { phase = progressed step.Back (phase_at s caller) }
  resumed_act =
      let new : ActState = record (act_at s a) { call = returned s.events (call_at s a) } in
      let back : ContextState = with_call s a (returned s.events (call_at s a)) in
      ap (λ acts. act_in acts caller) (acts_limited script (parent_of script a) a (is_act is_stop script a)
      (with_progress (parent_of script a) step.Back back))
      ∙ (stepped_act step.Back back (omega (arith, within, length-set s.acts a new))
      ∙ ap (λ (act : ActState). record act { phase = progressed step.Back act.phase }) (act_at-other s a new caller other))

-- What a context keeps beside its acts, its bodies and its allowances
pub record RoundPart : Type 0 where
  pub stopped : Bool
  pub closings : ℕ
  pub restarted : Bool
  pub dropping : Bool
  pub events : ℕ
  pub turn : Option ℕ

abbrev pub round_part : ContextState → RoundPart
round_part s = record {
  stopped = s.stopped;
  closings = s.closings;
  restarted = s.restarted;
  dropping = s.dropping;
  events = s.events;
  turn = s.turn;
}

abbrev pub one_later : RoundPart → RoundPart
one_later part = record part { events = one_more part.events }

abbrev pub turned : RoundPart → RoundPart
turned part = one_later (record part { turn = Some part.events })

abbrev pub closed : RoundPart → RoundPart
closed part = one_later (record part { closings = one_more part.closings; restarted = false; turn = None })

abbrev pub round_after : Event → RoundPart → RoundPart
round_after (event.Stop (Some a)) part = one_later (record part { stopped = true })
round_after (event.Stop None) part = record part { stopped = true }
round_after (event.Take a) part = turned part
round_after (event.Tick now) part = turned part
round_after event.Last part = turned part
round_after event.Fault part = one_later (record part { stopped = true; turn = None })
round_after event.Ended part = record (closed part) { stopped = true }
round_after event.Stopped part = record (closed part) { stopped = true }
round_after event.Polled part = closed part
round_after event.Restart part = one_later (record part { stopped = false; restarted = true })
round_after (event.Dropped o mark) part = record (one_later part) { dropping = true }
round_after _ part = one_later part

part-progress : (place : Place) (step : Step) (s : ContextState) →
    round_part (with_progress place step s) ≡ round_part s
part-progress None step s = refl
part-progress (Some at) step s = refl

part-limited : (script : ScriptModel) (place : Place) (a : ℕ) (stops : Bool) (s : ContextState) →
    round_part (cond stops (limited script a place s) s) ≡ round_part s
part-limited script None a true s = refl
part-limited script (Some at) a true s = refl
part-limited script place a false s = refl

part-spent : (inline : Bool) (at : Lane) (s : ContextState) → round_part (cond inline s (spend at s)) ≡ round_part s
part-spent true at s = refl
part-spent false at s = refl

pub part-after : (script : ScriptModel) (s : ContextState) (shown : Event) →
    round_part (context_after script s shown) ≡ round_after shown (round_part s)
part-after script s (event.Call a) = ap one_later (part-progress (parent_of script a) step.Made s)
part-after script s (event.Back a) =
    let back : ContextState = with_call s a (returned s.events (call_at s a)) in
    ap one_later (part-limited script (parent_of script a) a (is_act is_stop script a)
    (with_progress (parent_of script a) step.Back back)
    ∙ part-progress (parent_of script a) step.Back back)
part-after script s (event.Begin o code size) =
    ap one_later (part-spent (is_inline script o) (lane_of script o) (begun s o code))
part-after script s (event.Stop (Some a)) = refl
part-after script s (event.Stop None) = refl
part-after script s (event.End o mark) = refl
part-after script s (event.Take a) = refl
part-after script s (event.Done o code size) = refl
part-after script s (event.Tick now) = refl
part-after script s event.Last = refl
part-after script s event.Fault = refl
part-after script s event.Ended = refl
part-after script s event.Stopped = refl
part-after script s event.Polled = refl
part-after script s event.Restart = refl
part-after script s (event.Dropped o mark) = refl

-- calls of `open`, closings, restarts and drops are what rounds are made of
abbrev pub IsWithinRound : ScriptModel → Event → Type 0
IsWithinRound script (event.Call a) = IsHandlers (parent_of script a)
IsWithinRound script (event.Back a) = IsHandlers (parent_of script a)
IsWithinRound script event.Ended = ⊥
IsWithinRound script event.Stopped = ⊥
IsWithinRound script event.Polled = ⊥
IsWithinRound script event.Restart = ⊥
IsWithinRound script (event.Dropped o mark) = ⊥
IsWithinRound script _ = Unit {0}

opening-progress : (place : Place) (step : Step) (s : ContextState) → IsHandlers place →
    (with_progress place step s).opening ≡ s.opening
opening-progress None step s inside = absurd inside
opening-progress (Some at) step s inside = refl

pub opening-limited : (script : ScriptModel) (place : Place) (a : ℕ) (stops : Bool) (s : ContextState) →
    (cond stops (limited script a place s) s).opening ≡ s.opening
opening-limited script None a true s = refl
opening-limited script (Some at) a true s = refl
opening-limited script place a false s = refl

pub opening-spent : (inline : Bool) (at : Lane) (s : ContextState) → (cond inline s (spend at s)).opening ≡ s.opening
opening-spent true at s = refl
opening-spent false at s = refl

pub opening-after : (script : ScriptModel) (s : ContextState) (shown : Event) → IsWithinRound script shown →
    (context_after script s shown).opening ≡ s.opening
opening-after script s (event.Call a) inside = opening-progress (parent_of script a) step.Made s inside
opening-after script s (event.Back a) inside =
    let back : ContextState = with_call s a (returned s.events (call_at s a)) in
    opening-limited script (parent_of script a) a (is_act is_stop script a) (with_progress (parent_of script a) step.Back back)
    ∙ opening-progress (parent_of script a) step.Back back inside
opening-after script s (event.Begin o code size) inside =
    opening-spent (is_inline script o) (lane_of script o) (begun s o code)
opening-after script s (event.Stop (Some a)) inside = refl
opening-after script s (event.Stop None) inside = refl
opening-after script s (event.End o mark) inside = refl
opening-after script s (event.Take a) inside = refl
opening-after script s (event.Done o code size) inside = refl
opening-after script s (event.Tick now) inside = refl
opening-after script s event.Last inside = refl
opening-after script s event.Fault inside = refl
opening-after script s event.Ended inside = absurd inside
opening-after script s event.Stopped inside = absurd inside
opening-after script s event.Polled inside = absurd inside
opening-after script s event.Restart inside = absurd inside
opening-after script s (event.Dropped o mark) inside = absurd inside

-- what a round turns on
abbrev round_of : RoundPart → ℕ × Bool × Bool
round_of part = (part.closings, part.restarted, part.dropping)

round_same : (script : ScriptModel) (shown : Event) (part : RoundPart) → IsWithinRound script shown →
    round_of (round_after shown part) ≡ round_of part
round_same script event.Ended part inside = absurd inside
round_same script event.Stopped part inside = absurd inside
round_same script event.Polled part inside = absurd inside
round_same script event.Restart part inside = absurd inside
round_same script (event.Dropped o mark) part inside = absurd inside
round_same script (event.Stop (Some a)) part inside = refl
round_same script (event.Stop None) part inside = refl
round_same script other part inside = refl

-- a round that is open stays so
pub round_stays : (script : ScriptModel) (s : ContextState) (shown : Event) → IsWithinRound script shown →
    RoundIsOpen script s → RoundIsOpen script (context_after script s shown)
round_stays script s shown inside round =
    let t : ContextState = context_after script s shown in
    let same : round_of (round_part t) ≡ round_of (round_part s) =
    ap round_of (part-after script s shown) ∙ round_same script shown (round_part s) inside in
    let closings : t.closings ≡ s.closings = ap (λ p. p.0) same in
    let restarted : t.restarted ≡ s.restarted = ap (λ p. p.1) same in
    record {
      begun = record {
        opened = ap (λ (p : Progress). p.back) (opening-after script s shown inside) ∙ round.begun.opened;
        left = omega (arith, closings, round.begun.left);
      };
      restarted = λ wanted.
          restarted ∙ round.restarted (sym (ap (λ n. restarts (slice_get script.rounds n)) closings) ∙ wanted);
      alive = ap (λ p. p.2) same ∙ round.alive;
    }

-- what each event makes of the allowances
abbrev pub spent : Lane → Allowances → Allowances
spent of allowances = with_allowance of (less_one (allowance_of allowances of)) allowances

abbrev pub limited_to : ScriptModel → ℕ → Place → Bool → Allowances → Allowances
limited_to script a place false allowances = allowances
limited_to script a None true allowances = each_lane allowance.Nothing allowances
limited_to script a (Some at) true allowances = after_stop_on (lane_of script a) allowances

abbrev pub allowed_after : ScriptModel → Event → Allowances → Allowances
allowed_after script (event.Back a) allowances =
    limited_to script a (parent_of script a) (is_act is_stop script a) allowances
allowed_after script (event.Begin o code size) allowances =
    cond (is_inline script o) allowances (spent (lane_of script o) allowances)
allowed_after script (event.Take a) allowances = spent lane.Reactor allowances
allowed_after script (event.Tick now) allowances = spent lane.Reactor allowances
allowed_after script event.Last allowances = spent lane.Reactor allowances
allowed_after script event.Ended allowances = each_lane allowance.Nothing allowances
allowed_after script event.Stopped allowances = each_lane allowance.Nothing allowances
allowed_after script event.Restart allowances = each_lane allowance.Free allowances
allowed_after script _ allowances = allowances

allowances-progress : (place : Place) (step : Step) (s : ContextState) →
    (with_progress place step s).allowances ≡ s.allowances
allowances-progress None step s = refl
allowances-progress (Some at) step s = refl

allowances-limited : (script : ScriptModel) (place : Place) (a : ℕ) (stops : Bool) (s : ContextState) →
    (cond stops (limited script a place s) s).allowances ≡ limited_to script a place stops s.allowances
allowances-limited script None a true s = refl
allowances-limited script (Some at) a true s = refl
allowances-limited script place a false s = refl

allowances-spent : (inline : Bool) (at : Lane) (s : ContextState) →
    (cond inline s (spend at s)).allowances ≡ cond inline s.allowances (spent at s.allowances)
allowances-spent true at s = refl
allowances-spent false at s = refl

pub allowances-after : (script : ScriptModel) (s : ContextState) (shown : Event) →
    (context_after script s shown).allowances ≡ allowed_after script shown s.allowances
allowances-after script s (event.Call a) = allowances-progress (parent_of script a) step.Made s
allowances-after script s (event.Back a) =
    let back : ContextState = with_call s a (returned s.events (call_at s a)) in
    allowances-limited script (parent_of script a) a (is_act is_stop script a)
    (with_progress (parent_of script a) step.Back back)
    ∙ ap (limited_to script a (parent_of script a) (is_act is_stop script a))
    (allowances-progress (parent_of script a) step.Back back)
allowances-after script s (event.Begin o code size) =
    allowances-spent (is_inline script o) (lane_of script o) (begun s o code)
allowances-after script s (event.Stop (Some a)) = refl
allowances-after script s (event.Stop None) = refl
allowances-after script s (event.End o mark) = refl
allowances-after script s (event.Take a) = refl
allowances-after script s (event.Done o code size) = refl
allowances-after script s (event.Tick now) = refl
allowances-after script s event.Last = refl
allowances-after script s event.Fault = refl
allowances-after script s event.Ended = refl
allowances-after script s event.Stopped = refl
allowances-after script s event.Polled = refl
allowances-after script s event.Restart = refl
allowances-after script s (event.Dropped o mark) = refl
