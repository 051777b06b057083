-- An act where an execution is alone, beside the same act where other lanes go on.
use Rattle.std.proofs.Common.{◌≡◌, ◌≢◌, ℕ, Bool, true, false, cond, Some, None, refl, sym, ap, subst, ◌∙◌}
use Rattle.asio_types.specs.declared.code.Code.TheVariants as code
use Rattle.asio_types.specs.declared.number.Lane.{Lane}
use Rattle.session_script.specs.Script.{Place, ScriptModel, is_operation, parent_of}
use Rattle.session_script.specs.WellFormed.{IsWellFormed}
use Rattle.session_script.specs.Lanes.{is_inline, lane_of}
use Rattle.history_rules.specs.Calls.{accepted, is_open, progressed, returned, stopping}
use Rattle.history_rules.specs.Kinds.{is_act, is_control, is_posting}
use Rattle.history_rules.specs.State.{fresh}
use Rattle.history_rules.specs.declared.phase.ActPhase.{ActPhase}
use Rattle.history_rules.specs.declared.phase.ActPhase.TheVariants as phase
use Rattle.history_rules.specs.declared.phase.ActState.{ActState}
use Rattle.history_rules.specs.declared.phase.CallPhase.{CallPhase}
use Rattle.history_rules.specs.declared.phase.CallPhase.TheVariants as call
use Rattle.history_rules.specs.declared.phase.Cause.TheVariants as cause
use Rattle.history_rules.specs.declared.phase.Step.{Step}
use Rattle.execution_laws.specs.Ready.{is_ready}
use Rattle.execution_laws.proofs.ScriptLemmas.{accepted-inline}
use Rattle.history_merge.specs.Among.{IsPlaceOff, IsPlaceOn, is_underway}
use Rattle.history_merge.proofs.BodyLaneLemmas.{inline_place, same_on}

-- an operation that runs, has ended or waits inside its call
abbrev pub is_executed : ActPhase → Bool
is_executed (phase.Running class progress) = true
is_executed phase.Inside = true
is_executed phase.Ended = true
is_executed _ = false

-- how far a call has come, whatever its positions
abbrev pub came_to : CallPhase → CallPhase
came_to call.Uncalled = call.Uncalled
came_to (call.Open called) = call.Open 0
came_to (call.Stopping called) = call.Stopping 0
came_to (call.Back called back) = call.Back 0 0

-- What is executed, or whose call is open, where the execution is alone belongs to its lane, and is the same among
-- others; and nothing else of the lane is under way there.
pub record LooksAlike (script : ScriptModel) (lane : Lane) (n : ℕ) (alone among : ActState) : Type 0 where
  pub executed : is_executed alone.phase ≡ true → among.phase ≡ alone.phase
  pub called : is_open alone.call ≡ true → came_to among.call ≡ came_to alone.call
  pub of_lane : is_executed alone.phase ≡ true → lane_of script n ≡ lane
  pub by_lane : is_open alone.call ≡ true → IsPlaceOn script lane (parent_of script n)
  pub inline : is_inline script n ≡ true → is_ready alone.phase ≡ false
  pub quiet : lane_of script n ≡ lane → is_underway among.phase ≡ true → is_underway alone.phase ≡ true
  pub back : IsPlaceOn script lane (parent_of script n) → is_open among.call ≡ true → is_open alone.call ≡ true

-- what a step of a body, a stop and a return leave of a phase or a call
executed_step : (step : Step) (of : ActPhase) → is_executed (progressed step of) ≡ is_executed of
executed_step step (phase.Running class progress) = refl
executed_step step other = refl

ready_step : (step : Step) (of : ActPhase) → is_ready (progressed step of) ≡ is_ready of
ready_step step (phase.Running class progress) = refl
ready_step step other = refl

underway_step : (step : Step) (of : ActPhase) → is_underway (progressed step of) ≡ is_underway of
underway_step step (phase.Running class progress) = refl
underway_step step other = refl

open_stopping : (of : CallPhase) → is_open (stopping of) ≡ is_open of
open_stopping (call.Open called) = refl
open_stopping other = refl

came_stopping : (of : CallPhase) → came_to (stopping of) ≡ stopping (came_to of)
came_stopping call.Uncalled = refl
came_stopping (call.Open called) = refl
came_stopping (call.Stopping called) = refl
came_stopping (call.Back called back) = refl

pub closed_returned : (place : ℕ) (of : CallPhase) → is_open (returned place of) ≡ false
closed_returned place call.Uncalled = refl
closed_returned place (call.Open called) = refl
closed_returned place (call.Stopping called) = refl
closed_returned place (call.Back called back) = refl

-- what a call accepts neither runs nor waits, but inside the call
executed_by : (inline posting operation control : Bool) →
    is_executed (cond inline phase.Inside (cond posting (phase.Ready code.Ok 0 cause.Posted)
    (cond operation phase.Requested (cond control phase.Asked phase.Absent)))) ≡ true → inline ≡ true
executed_by true posting operation control is = refl
executed_by false true operation control is = absurd (cc)
executed_by false false true control is = absurd (cc)
executed_by false false false true is = absurd (cc)
executed_by false false false false is = absurd (cc)

underway_by : (inline posting operation control : Bool) →
    is_underway (cond inline phase.Inside (cond posting (phase.Ready code.Ok 0 cause.Posted)
    (cond operation phase.Requested (cond control phase.Asked phase.Absent)))) ≡ true → inline ≡ true
underway_by true posting operation control is = refl
underway_by false true operation control is = absurd (cc)
underway_by false false true control is = absurd (cc)
underway_by false false false true is = absurd (cc)
underway_by false false false false is = absurd (cc)

pub never : (b : Bool) → b ≡ false → b ≡ true → ⊥
never true isnt is = cc
never false isnt is = cc

pub is_not : (b : Bool) → (b ≡ true → ⊥) → b ≡ false
is_not true isnt = absurd (isnt refl)
is_not false isnt = refl

pub apart : (script : ScriptModel) (lane : Lane) (place : Place) → IsPlaceOn script lane place →
    IsPlaceOff script lane place → ⊥
apart script lane None on off = on
apart script lane (Some place) on off = off on

module _ (script : ScriptModel) (well : IsWellFormed script) (lane : Lane) where
  -- the same event on both sides
  pub alike_step : (step : Step) (n : ℕ) (x y : ActState) → LooksAlike script lane n x y →
      LooksAlike script lane n (record x { phase = progressed step x.phase }) (record y { phase = progressed step y.phase })
  alike_step step n x y is = record {
    executed = λ runs. ap (progressed step) (is.executed (sym (executed_step step x.phase) ∙ runs));
    called = is.called;
    of_lane = λ runs. is.of_lane (sym (executed_step step x.phase) ∙ runs);
    by_lane = is.by_lane;
    inline = λ inside. ready_step step x.phase ∙ is.inline inside;
    quiet = λ of under. underway_step step x.phase ∙ is.quiet of (sym (underway_step step y.phase) ∙ under);
    back = is.back;
  }

  pub alike_called : (n i j : ℕ) → IsPlaceOn script lane (parent_of script n) →
      LooksAlike script lane n (record { call = call.Open i; phase = accepted script n })
      (record { call = call.Open j; phase = accepted script n })
  alike_called n i j on = record {
    executed = λ runs. refl;
    called = λ calling. refl;
    of_lane = λ runs.
        let inside : is_inline script n ≡ true =
        executed_by (is_inline script n) (is_act is_posting script n) (is_act is_operation script n)
        (is_act is_control script n) runs in
        same_on script (lane_of script n) lane (parent_of script n) (inline_place script well n inside) on;
    by_lane = λ calling. on;
    inline = λ inside. ap is_ready (accepted-inline script n inside);
    quiet = λ of under. under;
    back = λ by calling. refl;
  }

  pub alike_stopping : (n : ℕ) (x y : ActState) → LooksAlike script lane n x y →
      LooksAlike script lane n (record x { call = stopping x.call }) (record y { call = stopping y.call })
  alike_stopping n x y is = record {
    executed = is.executed;
    called = λ calling.
        came_stopping y.call
        ∙ (ap stopping (is.called (sym (open_stopping x.call) ∙ calling)) ∙ sym (came_stopping x.call));
    of_lane = is.of_lane;
    by_lane = λ calling. is.by_lane (sym (open_stopping x.call) ∙ calling);
    inline = is.inline;
    quiet = is.quiet;
    back = λ by calling. open_stopping x.call ∙ is.back by (sym (open_stopping y.call) ∙ calling);
  }

  pub alike_returned : (n i j : ℕ) (x y : ActState) → LooksAlike script lane n x y →
      LooksAlike script lane n (record x { call = returned i x.call }) (record y { call = returned j y.call })
  alike_returned n i j x y is = record {
    executed = is.executed;
    called = λ calling. absurd (never (is_open (returned i x.call)) (closed_returned i x.call) calling);
    of_lane = is.of_lane;
    by_lane = λ calling. absurd (never (is_open (returned i x.call)) (closed_returned i x.call) calling);
    inline = is.inline;
    quiet = is.quiet;
    back = λ by calling. absurd (never (is_open (returned j y.call)) (closed_returned j y.call) calling);
  }

  -- a handler of the lane begins, or ends
  pub alike_phase : (n : ℕ) (to : ActPhase) (x y : ActState) → lane_of script n ≡ lane → is_ready to ≡ false →
      LooksAlike script lane n x y →
      LooksAlike script lane n (record x { phase = to }) (record y { phase = to })
  alike_phase n to x y of unready is = record {
    executed = λ runs. refl;
    called = is.called;
    of_lane = λ runs. of;
    by_lane = is.by_lane;
    inline = λ inside. unready;
    quiet = λ of under. under;
    back = is.back;
  }

  -- an event of others: a handler of another lane begins, ends or comes further
  pub other_phase : (n : ℕ) (to : ActPhase) (x y : ActState) → lane_of script n ≢ lane → LooksAlike script lane n x y →
      LooksAlike script lane n x (record y { phase = to })
  other_phase n to x y off is = record {
    executed = λ runs. absurd (off (is.of_lane runs));
    called = is.called;
    of_lane = is.of_lane;
    by_lane = is.by_lane;
    inline = is.inline;
    quiet = λ of under. absurd (off of);
    back = is.back;
  }

  -- a request completes
  pub other_done : (n : ℕ) (to : ActPhase) (x y : ActState) → y.phase ≡ phase.Requested → is_underway to ≡ false →
      LooksAlike script lane n x y → LooksAlike script lane n x (record y { phase = to })
  other_done n to x y asked idle is = record {
    executed = λ runs.
        absurd (never (is_executed x.phase) (ap is_executed (sym (is.executed runs) ∙ asked)) runs);
    called = is.called;
    of_lane = is.of_lane;
    by_lane = is.by_lane;
    inline = is.inline;
    quiet = λ of under. absurd (never (is_underway to) idle under);
    back = is.back;
  }

  -- a call by a handler of another lane, or by none, comes further
  pub other_call : (n : ℕ) (to : CallPhase) (x y : ActState) → IsPlaceOff script lane (parent_of script n) →
      LooksAlike script lane n x y → LooksAlike script lane n x (record y { call = to })
  other_call n to x y off is = record {
    executed = is.executed;
    called = λ calling. absurd (apart script lane (parent_of script n) (is.by_lane calling) off);
    of_lane = is.of_lane;
    by_lane = is.by_lane;
    inline = is.inline;
    quiet = is.quiet;
    back = λ by calling. absurd (apart script lane (parent_of script n) by off);
  }

  -- it is made
  pub other_called : (n j : ℕ) (x y : ActState) → IsPlaceOff script lane (parent_of script n) → y ≡ fresh →
      LooksAlike script lane n x y →
      LooksAlike script lane n x (record { call = call.Open j; phase = accepted script n })
  other_called n j x y off new is = record {
    executed = λ runs.
        absurd (never (is_executed x.phase)
        (ap is_executed (sym (is.executed runs) ∙ ap (λ (act : ActState). act.phase) new)) runs);
    called = λ calling. absurd (apart script lane (parent_of script n) (is.by_lane calling) off);
    of_lane = is.of_lane;
    by_lane = is.by_lane;
    inline = is.inline;
    quiet = λ of under.
        let inside : is_inline script n ≡ true =
        underway_by (is_inline script n) (is_act is_posting script n) (is_act is_operation script n)
        (is_act is_control script n) under in
        absurd (apart script lane (parent_of script n)
        (subst (λ l. IsPlaceOn script l (parent_of script n)) of (inline_place script well n inside)) off);
    back = λ by calling. absurd (apart script lane (parent_of script n) by off);
  }
