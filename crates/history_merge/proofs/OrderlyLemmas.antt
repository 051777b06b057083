-- That acts are called once, in the order of their bodies, that nothing has become of an act before its call, and that
-- all dates are past: each event keeps it.
use Rattle.std.proofs.Common.{◌≡◌, ◌≢◌, ◌⊎◌, ℕ, zero, suc, ◌+◌, ◌<◌, ◌≤◌, Bool, true, false, cond, List, [], ◌∷◌, Option, Some, None, inl, inr, length, refl, sym, ap, subst, ◌∙◌, arith}
use Rattle.std.specs.Prelude.{slice_get}
use Rattle.std.specs.Option.{unwrap_or}
use Rattle.std.specs.List.{slice_set}
use Rattle.asio_types.specs.Faults.{most_faults}
use Rattle.asio_types.specs.declared.code.Class.{Class}
use Rattle.asio_types.specs.declared.code.Code.TheVariants as code
use Rattle.asio_types.specs.declared.event.Event.{Event}
use Rattle.asio_types.specs.declared.event.Event.TheVariants as event
use Rattle.session_script.specs.Script.{Entry, Place, ScriptModel, is_operation, numbers_in, parent_of, same_place}
use Rattle.session_script.specs.Lanes.{is_inline}
use Rattle.session_script.proofs.GatheringLemmas.{same_place-self}
use Rattle.history_rules.specs.Calls.{accepted, progressed, returned, stopping, with_progress}
use Rattle.history_rules.specs.Kinds.{is_act, is_control, is_posting}
use Rattle.history_rules.specs.Order.{was_taken}
use Rattle.history_rules.specs.State.{ContextState, State, act_at, call_at, phase_at}
use Rattle.history_rules.specs.declared.phase.ActPhase.{ActPhase}
use Rattle.history_rules.specs.declared.phase.ActPhase.TheVariants as phase
use Rattle.history_rules.specs.declared.phase.ActState.{ActState}
use Rattle.history_rules.specs.declared.phase.CallPhase.{CallPhase}
use Rattle.history_rules.specs.declared.phase.CallPhase.TheVariants as call
use Rattle.history_rules.specs.declared.phase.Cause.TheVariants as cause
use Rattle.history_rules.specs.declared.phase.Step.{Step}
use Rattle.history_rules.specs.declared.phase.Step.TheVariants as step
use Rattle.execution_laws.specs.Order.{IsOrderly, has_begun}
use Rattle.execution_laws.specs.Ready.{IsCallPast, IsCausePast}
use Rattle.execution_laws.proofs.KeptLemmas.{cause_later}
use Rattle.execution_laws.proofs.MovesLemmas.{past_later}
use Rattle.execution_laws.proofs.StateLemmas.{acts_in}
use Rattle.history_merge.proofs.EachActLemmas.{Each, act_in, right_set}

-- a handler has made the call at this index of its branch for a class
abbrev pub HasMade : Class → ℕ → ActPhase → Type 0
HasMade class k (phase.Running running progress) = (running ≡ class) × (k < progress.made)
HasMade class k phase.Ended = Unit {0}
HasMade class k _ = ⊥

-- the call at this index of a body was made
abbrev pub IsMadeIn : ContextState → Place → ℕ → Type 0
IsMadeIn s None k = k < s.opening.made
IsMadeIn s (Some at) k = HasMade at.1 k (phase_at s at.0)

-- an act's dates are past, and nothing has become of it before its call
pub record IsActInOrder (now : ℕ) (act : ActState) : Type 0 where
  pub called : IsCallPast now act.call
  pub caused : IsCausePast now act.phase
  pub absent : act.call ≡ call.Uncalled → act.phase ≡ phase.Absent

pub record IsInOrder (script : ScriptModel) (s : ContextState) : Type 0 where
  pub size : length s.acts ≡ length script.acts
  pub acts : (n : ℕ) → IsActInOrder s.events (act_at s n)
  pub turn : unwrap_or s.turn 0 ≤ s.events
  -- an act of a body that was called is one of those that the body has made
  pub made : (place : Place) (k n : ℕ) → slice_get (acts_in script place) k ≡ Some n →
      call_at s n ≢ call.Uncalled → IsMadeIn s place k

-- the act that an event calls
abbrev pub IsCallOf : Event → ℕ → Type 0
IsCallOf (event.Call a) n = n ≡ a
IsCallOf _ n = ⊥

-- what an event makes of an act: it is in order later on, and what was made stays so
pub record IsLater (shown : Event) (later n : ℕ) (x y : ActState) : Type 0 where
  pub order : IsActInOrder later y
  pub called : y.call ≢ call.Uncalled → (x.call ≢ call.Uncalled) ⊎ IsCallOf shown n
  pub made : (class : Class) (k : ℕ) → k < most_faults → HasMade class k x.phase → HasMade class k y.phase

-- what is asked of the event beside what it is legal by: what completes was requested, and what is destroyed hasn't begun
abbrev pub IsExpected : ContextState → Event → Type 0
IsExpected s (event.Done o code size) = phase_at s o ≡ phase.Requested
IsExpected s (event.Dropped o mark) = has_begun (phase_at s o) ≡ false
IsExpected s _ = Unit {0}

pub made_begun : (class : Class) (k : ℕ) (of : ActPhase) → HasMade class k of → has_begun of ≡ true
made_begun class k (phase.Running running progress) made = refl
made_begun class k phase.Ended made = refl
made_begun class k other made = absurd made

-- one more call, or one that is back, leaves those that were made
pub made_step : (step : Step) (class : Class) (k : ℕ) (of : ActPhase) → k < most_faults → HasMade class k of →
    HasMade class k (progressed step of)
made_step step.Made class k (phase.Running running progress) few made = (made.0, omega (arith, few, made.1))
made_step step.Back class k (phase.Running running progress) few made = made
made_step step class k phase.Ended few made = tt
made_step step class k other few made = absurd made

cause_step : (step : Step) (now : ℕ) (of : ActPhase) → IsCausePast now of → IsCausePast now (progressed step of)
cause_step step now (phase.Running class progress) past = tt
cause_step step now other past = past

absent_step : (step : Step) (of : ActPhase) → of ≡ phase.Absent → progressed step of ≡ phase.Absent
absent_step step of is = ap (progressed step) is

pub past_stopping : (now : ℕ) (of : CallPhase) → IsCallPast now of → IsCallPast now (stopping of)
past_stopping now (call.Open called) past = past
past_stopping now other past = past

pub past_returned : (now later : ℕ) (of : CallPhase) → now < later → IsCallPast now of → IsCallPast later (returned now of)
past_returned now later call.Uncalled less past = tt
past_returned now later (call.Open called) less past = (omega (arith, past), omega (arith, less))
past_returned now later (call.Stopping called) less past = (omega (arith, past), omega (arith, less))
past_returned now later (call.Back called back) less past = (past.0, omega (arith, less, past.1))

pub stopping_made : (of : CallPhase) → stopping of ≡ call.Uncalled → of ≡ call.Uncalled
stopping_made call.Uncalled is = refl
stopping_made (call.Open called) is = absurd (cc)
stopping_made (call.Stopping called) is = absurd (cc)
stopping_made (call.Back called back) is = absurd (cc)

pub stopping_was : (of : CallPhase) → of ≡ call.Uncalled → stopping of ≡ call.Uncalled
stopping_was of is = ap stopping is

pub returned_made : (now : ℕ) (of : CallPhase) → returned now of ≡ call.Uncalled → of ≡ call.Uncalled
returned_made now call.Uncalled is = refl
returned_made now (call.Open called) is = absurd (cc)
returned_made now (call.Stopping called) is = absurd (cc)
returned_made now (call.Back called back) is = absurd (cc)

-- what a call accepts has no date
accepted_past : (now : ℕ) (inline posting operation control : Bool) →
    IsCausePast now (cond inline phase.Inside (cond posting (phase.Ready code.Ok 0 cause.Posted)
    (cond operation phase.Requested (cond control phase.Asked phase.Absent))))
accepted_past now true posting operation control = tt
accepted_past now false true operation control = tt
accepted_past now false false true control = tt
accepted_past now false false false true = tt
accepted_past now false false false false = tt

later_act : (now later : ℕ) (x : ActState) → now ≤ later → IsActInOrder now x → IsActInOrder later x
later_act now later x less order = record {
  called = past_later now later x.call less order.called;
  caused = cause_later now later x.phase less order.caused;
  absent = order.absent;
}

module _ (shown : Event) (now later : ℕ) (less : now < later) where
  pub same_later : (n : ℕ) (x : ActState) → IsActInOrder now x → IsLater shown later n x x
  same_later n x order = record {
    order = later_act now later x (omega (arith, less)) order;
    called = λ is. inl is;
    made = λ class k few made. made;
  }

  step_later : (step : Step) (n : ℕ) (x y : ActState) → IsLater shown later n x y →
      IsLater shown later n x (record y { phase = progressed step y.phase })
  step_later step n x y is = record {
    order = record {
      called = is.order.called;
      caused = cause_step step later y.phase is.order.caused;
      absent = λ uncalled. absent_step step y.phase (is.order.absent uncalled);
    };
    called = is.called;
    made = λ class k few made. made_step step class k y.phase few (is.made class k few made);
  }

  -- the call comes further
  pub call_later : (n : ℕ) (to : CallPhase) (x : ActState) → IsActInOrder now x → IsCallPast later to →
      (to ≡ call.Uncalled → x.call ≡ call.Uncalled) → (x.call ≡ call.Uncalled → to ≡ call.Uncalled) →
      IsLater shown later n x (record x { call = to })
  call_later n to x order past back forth = record {
    order = record {
      called = past;
      caused = cause_later now later x.phase (omega (arith, less)) order.caused;
      absent = λ uncalled. order.absent (back uncalled);
    };
    called = λ is. inl (λ uncalled. is (forth uncalled));
    made = λ class k few made. made;
  }

  -- what becomes of an act beyond its call
  pub phase_later : (n : ℕ) (to : ActPhase) (x : ActState) → IsActInOrder now x → x.phase ≢ phase.Absent →
      IsCausePast later to → ((class : Class) (k : ℕ) → HasMade class k x.phase → HasMade class k to) →
      IsLater shown later n x (record x { phase = to })
  phase_later n to x order there past made = record {
    order = record {
      called = past_later now later x.call (omega (arith, less)) order.called;
      caused = past;
      absent = λ uncalled. absurd (there (order.absent uncalled));
    };
    called = λ is. inl is;
    made = λ class k few. made class k;
  }

  pub set_later : (xs ys : List ActState) (a : ℕ) (y : ActState) → Each (IsLater shown later) xs ys →
      IsLater shown later a (act_in xs a) y → Each (IsLater shown later) xs (slice_set ys a y)
  set_later xs ys a y each new = right_set (IsLater shown later) xs ys a y each new

  pub progress_later : (place : Place) (step : Step) (xs : List ActState) (t : ContextState) →
      Each (IsLater shown later) xs t.acts → Each (IsLater shown later) xs (with_progress place step t).acts
  progress_later None step xs t each = each
  progress_later (Some at) step xs t each =
      set_later xs t.acts at.0 (record (act_at t at.0) { phase = progressed step (phase_at t at.0) }) each
      (step_later step at.0 (act_in xs at.0) (act_at t at.0) (each at.0))

-- a new call
pub called_later : (script : ScriptModel) (a now later : ℕ) (x : ActState) → now < later → x.phase ≡ phase.Absent →
    IsLater (event.Call a) later a x (record { call = call.Open now; phase = accepted script a })
called_later script a now later x less absent = record {
  order = record {
    called = less;
    caused = accepted_past later (is_inline script a) (is_act is_posting script a) (is_act is_operation script a)
        (is_act is_control script a);
    absent = λ uncalled. absurd (cc);
  };
  called = λ is. inr refl;
  made = λ class k few made. absurd (subst (HasMade class k) absent made);
}

pub uncalled_or : (of : CallPhase) → (of ≢ call.Uncalled → ⊥) → of ≡ call.Uncalled
uncalled_or call.Uncalled never = refl
uncalled_or (call.Open called) never = absurd (never (λ is. absurd (cc)))
uncalled_or (call.Stopping called) never = absurd (never (λ is. absurd (cc)))
uncalled_or (call.Back called back) never = absurd (never (λ is. absurd (cc)))

-- an act stands in the body of its place
stands_by : (place : Place) (n j : ℕ) (entries : List Entry) (e : Entry) → slice_get entries j ≡ Some e →
    same_place place e.parent ≡ true → (k : ℕ) × (slice_get (numbers_in place n entries) k ≡ Some (n + j))
stands_by place n j [] e at here = absurd (cc)
stands_by place n zero (entry ∷ entries) e at here =
    let same : entry ≡ e = cc in
    let is : same_place place entry.parent ≡ true = ap (λ (e : Entry). same_place place e.parent) same ∙ here in
    let number : n ≡ n + 0 = omega arith in
    (0, rw is (ap Some number))
stands_by place n (suc j) (entry ∷ entries) e at here =
    let later = stands_by place (n + 1) j entries e at here in
    let number : n + 1 + j ≡ n + suc j = omega arith in
    behind (same_place place entry.parent) n (numbers_in place (n + 1) entries) later.0 (n + suc j) (later.1 ∙ ap Some number)
  where
    behind : (here : Bool) (n : ℕ) (numbers : List ℕ) (k a : ℕ) → slice_get numbers k ≡ Some a →
        (k : ℕ) × (slice_get (cond here (n ∷ numbers) numbers) k ≡ Some a)
    behind true n numbers k a at = (suc k, at)
    behind false n numbers k a at = (k, at)

stands_in : (script : ScriptModel) (n : ℕ) (at : ℕ × Class) → parent_of script n ≡ Some at →
    (k : ℕ) × (slice_get (acts_in script (Some at)) k ≡ Some n)
stands_in script n at under = by_entry (slice_get script.acts n) refl
  where
    by_entry : (found : Option Entry) → slice_get script.acts n ≡ found →
        (k : ℕ) × (slice_get (acts_in script (Some at)) k ≡ Some n)
    by_entry None stands =
        absurd (let none : parent_of script n ≡ None = rw stands refl in
        let wrong : None ≡ Some at = sym none ∙ under in cc)
    by_entry (Some e) stands =
        let parent : e.parent ≡ Some at = sym (let is : parent_of script n ≡ e.parent = rw stands refl in is) ∙ under in
        let is : same_place (Some at) e.parent ≡ true = ap (same_place (Some at)) parent ∙ same_place-self (Some at) in
        let found = stands_by (Some at) 0 n script.acts e stands is in
        let number : 0 + n ≡ n = omega arith in
        (found.0, found.1 ∙ ap Some number)

-- what is said of a session at rest holds at each event: the laws of executions may be used
pub is_orderly : (script : ScriptModel) (s : State) → IsInOrder script s.context →
    ((n : ℕ) → call_at s.context n ≡ call.Uncalled → was_taken s.reactor n ≡ false) → IsOrderly script s
is_orderly script s order untaken = record {
  dated = record { calls = λ n. (order.acts n).called; causes = λ n. (order.acts n).caused; turn = order.turn };
  uncalled = λ n. (order.acts n).absent;
  untaken = untaken;
  branches = λ n op class under isnt.
      let stands = stands_in script n (op, class) under in
      uncalled_or (call_at s.context n) (λ called.
      let wrong : true ≡ false =
      sym (made_begun class stands.0 (phase_at s.context op) (order.made (Some (op, class)) stands.0 n stands.1 called)) ∙ isnt in
      absurd (cc));
}
