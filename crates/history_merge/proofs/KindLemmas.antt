-- What each act may be by its kind: each event keeps it.
use Rattle.std.proofs.Common.{◌≡◌, ℕ, Bool, true, false, cond, List, Option, Some, None, inl, inr, refl, sym, ap, subst, ◌∙◌}
use Rattle.std.specs.Prelude.{slice_get}
use Rattle.std.specs.Option.{unwrap_or}
use Rattle.std.specs.List.{slice_set}
use Rattle.asio_types.specs.Code.{class_of_code}
use Rattle.asio_types.specs.declared.code.Class.{Class}
use Rattle.asio_types.specs.declared.code.Code.{Code}
use Rattle.asio_types.specs.declared.code.Code.TheVariants as code
use Rattle.asio_types.specs.declared.event.Event.{Event}
use Rattle.asio_types.specs.declared.event.Event.TheVariants as event
use Rattle.asio_types.specs.declared.number.Lane.{Lane}
use Rattle.session_script.specs.declared.act.Act.{Act}
use Rattle.session_script.specs.declared.act.Act.TheVariants as act
use Rattle.session_script.specs.Script.{Entry, Place, ScriptModel, is_op, is_operation, is_stop, parent_of}
use Rattle.session_script.specs.Lanes.{caller_lane, is_inline, is_inside, lane_of, lanes_of}
use Rattle.history_rules.specs.Calls.{accepted, progressed, returned, stopping, with_progress}
use Rattle.history_rules.specs.Executions.{MayBegin, begun}
use Rattle.history_rules.specs.Kinds.{is_act, is_control, is_posting}
use Rattle.history_rules.specs.Legal.{MayHappen, context_after}
use Rattle.history_rules.specs.Order.{is_request}
use Rattle.history_rules.specs.Rounds.{is_running, is_unspent}
use Rattle.history_rules.specs.State.{ContextState, State, act_at, call_at, no_progress, phase_at, with_call}
use Rattle.history_rules.specs.declared.phase.ActPhase.{ActPhase}
use Rattle.history_rules.specs.declared.phase.ActPhase.TheVariants as phase
use Rattle.history_rules.specs.declared.phase.ActState.{ActState}
use Rattle.history_rules.specs.declared.phase.CallPhase.{CallPhase}
use Rattle.history_rules.specs.declared.phase.CallPhase.TheVariants as call
use Rattle.history_rules.specs.declared.phase.Cause.{Cause}
use Rattle.history_rules.specs.declared.phase.Cause.TheVariants as cause
use Rattle.history_rules.specs.declared.phase.Progress.{Progress}
use Rattle.history_rules.specs.declared.phase.Step.{Step}
use Rattle.history_rules.specs.declared.phase.Step.TheVariants as step
use Rattle.execution_laws.specs.Kinds.{is_accepted, was_called}
use Rattle.execution_laws.specs.Ready.{is_ready}
use Rattle.execution_laws.proofs.ScriptLemmas.{accepted-inline}
use Rattle.history_merge.proofs.AlikeLemmas.{is_not, never}
use Rattle.history_merge.proofs.EachActLemmas.{act_in, right_set}
use Rattle.history_merge.proofs.FrameLemmas.{acts_limited, acts_spent}
use Rattle.history_merge.proofs.OrderlyLemmas.{IsExpected}

-- An operation that was called was accepted, what has no handler keeps none unspent, what executes inside its call is
-- never ready, and what asks the reactor or was posted is as its call accepted it
pub record IsActOfKind (script : ScriptModel) (n : ℕ) (act : ActState) : Type 0 where
  pub spent : is_op script n ≡ false → is_unspent act.phase ≡ false
  pub entered : is_op script n ≡ true → was_called act.call ≡ true → is_accepted act.phase ≡ true
  pub inline : is_inline script n ≡ true → is_ready act.phase ≡ false
  pub asked : is_request act.phase ≡ true → act.phase ≡ accepted script n
  pub posted : (given : Code) (size : ℕ) → act.phase ≡ phase.Ready given size cause.Posted →
      act.phase ≡ accepted script n

abbrev pub AreOfKind : ScriptModel → List ActState → Type 0
AreOfKind script acts = (n : ℕ) → IsActOfKind script n (act_in acts n)

-- the kinds of acts
inside_is : (caller : Option Lane) (it : Act) → is_inside caller it ≡ true → is_operation it ≡ true
inside_is None it is = absurd (cc)
inside_is (Some caller) (act.Dispatch strand) is = refl
inside_is (Some caller) it is = absurd (cc)

posting_is : (it : Act) → is_posting it ≡ true → is_operation it ≡ true
posting_is (act.Post strand) is = refl
posting_is (act.Defer strand) is = refl
posting_is (act.Dispatch strand) is = refl
posting_is it is = absurd (cc)

module _ (script : ScriptModel) (n : ℕ) where
  pub inline_op : is_inline script n ≡ true → is_op script n ≡ true
  inline_op inside = by_entry (slice_get script.acts n) refl
    where
      by_entry : (found : Option Entry) → slice_get script.acts n ≡ found → is_op script n ≡ true
      by_entry None stands =
          absurd (let none : is_inline script n ≡ false = rw stands refl in
          never (is_inline script n) none inside)
      by_entry (Some e) stands =
          let opened : is_inline script n ≡ is_inside (caller_lane (lanes_of script) e.parent) e.act =
          rw (stands, stands) refl in
          let is : is_op script n ≡ is_operation e.act = rw stands refl in
          is ∙ inside_is (caller_lane (lanes_of script) e.parent) e.act (sym opened ∙ inside)

  pub posting_op : is_act is_posting script n ≡ true → is_op script n ≡ true
  posting_op posts = by_entry (slice_get script.acts n) refl
    where
      by_entry : (found : Option Entry) → slice_get script.acts n ≡ found → is_op script n ≡ true
      by_entry None stands =
          absurd (let none : is_act is_posting script n ≡ false = rw stands refl in
          never (is_act is_posting script n) none posts)
      by_entry (Some e) stands =
          let opened : is_act is_posting script n ≡ is_posting e.act = rw stands refl in
          let is : is_op script n ≡ is_operation e.act = rw stands refl in
          is ∙ posting_is e.act (sym opened ∙ posts)

  pub op_is : is_act is_operation script n ≡ is_op script n
  op_is = by_entry (slice_get script.acts n) refl
    where
      by_entry : (found : Option Entry) → slice_get script.acts n ≡ found →
          is_act is_operation script n ≡ is_op script n
      by_entry None stands = rw stands refl
      by_entry (Some e) stands = rw stands refl

-- what a call accepts, by the kind of its act
spent_by : (inline posting operation control : Bool) → (inline ≡ true → operation ≡ true) →
    (posting ≡ true → operation ≡ true) → operation ≡ false →
    is_unspent (cond inline phase.Inside (cond posting (phase.Ready code.Ok 0 cause.Posted)
    (cond operation phase.Requested (cond control phase.Asked phase.Absent)))) ≡ false
spent_by true posting operation control inside posts isnt = absurd (never operation isnt (inside refl))
spent_by false true operation control inside posts isnt = absurd (never operation isnt (posts refl))
spent_by false false true control inside posts isnt = absurd (cc)
spent_by false false false true inside posts isnt = refl
spent_by false false false false inside posts isnt = refl

entered_by : (inline posting operation control : Bool) → operation ≡ true →
    is_accepted (cond inline phase.Inside (cond posting (phase.Ready code.Ok 0 cause.Posted)
    (cond operation phase.Requested (cond control phase.Asked phase.Absent)))) ≡ true
entered_by true posting operation control is = refl
entered_by false true operation control is = refl
entered_by false false true control is = refl
entered_by false false false control is = absurd (cc)

-- a body's step leaves what isn't running, and every test that doesn't look at how far it has come
same_step : (step : Step) (of : ActPhase) → is_running of ≡ false → progressed step of ≡ of
same_step step (phase.Running class progress) quiet = absurd (cc)
same_step step other quiet = refl

test_step : (test : ActPhase → Bool) →
    ((class : Class) (p q : Progress) → test (phase.Running class p) ≡ test (phase.Running class q)) →
    (step : Step) (of : ActPhase) → test (progressed step of) ≡ test of
test_step test blind step.Made (phase.Running class progress) = blind class _ progress
test_step test blind step.Back (phase.Running class progress) = blind class _ progress
test_step test blind step other = refl

request_quiet : (of : ActPhase) → is_request of ≡ true → is_running of ≡ false
request_quiet (phase.Running class progress) is = absurd (cc)
request_quiet other is = refl

ready_back : (step : Step) (of : ActPhase) (given : Code) (size : ℕ) (why : Cause) →
    progressed step of ≡ phase.Ready given size why → of ≡ phase.Ready given size why
ready_back step (phase.Running class progress) given size why is = absurd (cc)
ready_back step other given size why is = is

pub called_stopping : (of : CallPhase) → was_called (stopping of) ≡ was_called of
called_stopping call.Uncalled = refl
called_stopping (call.Open called) = refl
called_stopping (call.Stopping called) = refl
called_stopping (call.Back called back) = refl

pub called_returned : (now : ℕ) (of : CallPhase) → was_called (returned now of) ≡ was_called of
called_returned now call.Uncalled = refl
called_returned now (call.Open called) = refl
called_returned now (call.Stopping called) = refl
called_returned now (call.Back called back) = refl

-- an operation that is to begin wasn't spent
to_begin_unspent : (script : ScriptModel) (s : ContextState) (o : ℕ) (given : Code) (size : ℕ) →
    MayBegin script s o given size → is_unspent (phase_at s o) ≡ true
to_begin_unspent script s o given size (inl outside) = ap is_unspent outside.ready.1
to_begin_unspent script s o given size (inr within) = ap is_unspent within.inside

module _ (script : ScriptModel) where
  kind_step : (step : Step) (n : ℕ) (x : ActState) → IsActOfKind script n x →
      IsActOfKind script n (record x { phase = progressed step x.phase })
  kind_step step n x kind =
      let still : is_request (progressed step x.phase) ≡ true → progressed step x.phase ≡ x.phase =
      λ asks. same_step step x.phase
      (request_quiet x.phase (sym (test_step is_request (λ class p q. refl) step x.phase) ∙ asks)) in
      record {
        spent = λ isnt. test_step is_unspent (λ class p q. refl) step x.phase ∙ kind.spent isnt;
        entered = λ is called. test_step is_accepted (λ class p q. refl) step x.phase ∙ kind.entered is called;
        inline = λ inside. test_step is_ready (λ class p q. refl) step x.phase ∙ kind.inline inside;
        asked = λ asks.
            still asks ∙ kind.asked (sym (test_step is_request (λ class p q. refl) step x.phase) ∙ asks);
        posted = λ given size is.
            let before : x.phase ≡ phase.Ready given size cause.Posted =
            ready_back step x.phase given size cause.Posted is in
            is ∙ (sym before ∙ kind.posted given size before);
      }

  kind_call : (n : ℕ) (to : CallPhase) (x : ActState) → was_called to ≡ was_called x.call →
      IsActOfKind script n x → IsActOfKind script n (record x { call = to })
  kind_call n to x same kind = record {
    spent = kind.spent;
    entered = λ is called. kind.entered is (sym same ∙ called);
    inline = kind.inline;
    asked = kind.asked;
    posted = kind.posted;
  }

  kind_called : (n now : ℕ) →
      IsActOfKind script n (record { call = call.Open now; phase = accepted script n })
  kind_called n now = record {
    spent = λ isnt.
        spent_by (is_inline script n) (is_act is_posting script n) (is_act is_operation script n)
        (is_act is_control script n) (λ inside. op_is script n ∙ inline_op script n inside)
        (λ posts. op_is script n ∙ posting_op script n posts) (op_is script n ∙ isnt);
    entered = λ is called.
        entered_by (is_inline script n) (is_act is_posting script n) (is_act is_operation script n)
        (is_act is_control script n) (op_is script n ∙ is);
    inline = λ inside. ap is_ready (accepted-inline script n inside);
    asked = λ asks. refl;
    posted = λ given size is. refl;
  }

  -- what an act comes to that is neither a request nor a posting
  kind_phase : (n : ℕ) (to : ActPhase) (x : ActState) →
      (is_unspent to ≡ true → is_unspent x.phase ≡ true) → is_accepted to ≡ true →
      (is_inline script n ≡ true → is_ready to ≡ false) → is_request to ≡ false →
      ((given : Code) (size : ℕ) → to ≡ phase.Ready given size cause.Posted → ⊥) →
      IsActOfKind script n x → IsActOfKind script n (record x { phase = to })
  kind_phase n to x unspent enters unready silent unposted kind = record {
    spent = λ isnt.
        is_not (is_unspent to) (λ is. never (is_unspent x.phase) (kind.spent isnt) (unspent is));
    entered = λ is called. enters;
    inline = unready;
    asked = λ asks. absurd (never (is_request to) silent asks);
    posted = λ given size is. absurd (unposted given size is);
  }

  set_kind : (acts : List ActState) (a : ℕ) (x : ActState) → AreOfKind script acts → IsActOfKind script a x →
      AreOfKind script (slice_set acts a x)
  set_kind acts a x kinds new = right_set (λ n y. IsActOfKind script n) acts acts a x kinds new

  progress_kind : (place : Place) (step : Step) (s : ContextState) → AreOfKind script s.acts →
      AreOfKind script (with_progress place step s).acts
  progress_kind None step s kinds = kinds
  progress_kind (Some at) step s kinds =
      set_kind s.acts at.0 (record (act_at s at.0) { phase = progressed step (phase_at s at.0) }) kinds
      (kind_step step at.0 (act_at s at.0) (kinds at.0))

  pub kinds_kept : (told : Bool) (s : State) (shown : Event) → MayHappen script told s shown →
      IsExpected s.context shown → AreOfKind script s.context.acts →
      AreOfKind script (context_after script s.context shown).acts
  kinds_kept told s (event.Call a) may expected kinds =
      set_kind (with_progress (parent_of script a) step.Made s.context).acts a
      (record { call = call.Open s.context.events; phase = accepted script a })
      (progress_kind (parent_of script a) step.Made s.context kinds) (kind_called a s.context.events)
  kinds_kept told s (event.Stop (Some a)) may expected kinds =
      set_kind s.context.acts a (record (act_at s.context a) { call = stopping (call_at s.context a) }) kinds
      (kind_call a (stopping (call_at s.context a)) (act_at s.context a) (called_stopping (call_at s.context a)) (kinds a))
  kinds_kept told s (event.Back a) may expected kinds =
      let to : CallPhase = returned s.context.events (call_at s.context a) in
      let back : ContextState = with_call s.context a to in
      subst (AreOfKind script)
      (sym (acts_limited script (parent_of script a) a (is_act is_stop script a)
      (with_progress (parent_of script a) step.Back back)))
      (progress_kind (parent_of script a) step.Back back
      (set_kind s.context.acts a (record (act_at s.context a) { call = to }) kinds
      (kind_call a to (act_at s.context a) (called_returned s.context.events (call_at s.context a)) (kinds a))))
  kinds_kept told s (event.Begin o given size) may expected kinds =
      let to : ActPhase = phase.Running (class_of_code given) no_progress in
      subst (AreOfKind script) (sym (acts_spent (is_inline script o) (lane_of script o) (begun s.context o given)))
      (set_kind s.context.acts o (record (act_at s.context o) { phase = to }) kinds
      (kind_phase o to (act_at s.context o) (λ is. to_begin_unspent script s.context o given size may) refl (λ inside. refl)
      refl (λ g n is. absurd (cc)) (kinds o)))
  kinds_kept told s (event.End o mark) may expected kinds =
      set_kind s.context.acts o (record (act_at s.context o) { phase = phase.Ended }) kinds
      (kind_phase o phase.Ended (act_at s.context o) (λ is. absurd (cc)) refl (λ inside. refl) refl
      (λ g n is. absurd (cc)) (kinds o))
  kinds_kept told s (event.Done o given size) may expected kinds =
      let to : ActPhase = phase.Ready given size (cause.Completed s.context.events (unwrap_or s.context.turn 0)) in
      set_kind s.context.acts o (record (act_at s.context o) { phase = to }) kinds
      (kind_phase o to (act_at s.context o) (λ is. ap is_unspent expected) refl
      (λ inside.
      let wrong : phase.Requested ≡ phase.Inside =
      sym expected ∙ ((kinds o).asked (ap is_request expected) ∙ accepted-inline script o inside) in absurd (cc))
      refl (λ g n is. absurd (cc)) (kinds o))
  kinds_kept told s (event.Dropped o mark) may expected kinds =
      set_kind s.context.acts o (record (act_at s.context o) { phase = phase.Dropped }) kinds
      (kind_phase o phase.Dropped (act_at s.context o) (λ is. absurd (cc)) refl (λ inside. refl) refl
      (λ g n is. absurd (cc)) (kinds o))
  kinds_kept told s (event.Stop None) may expected kinds = kinds
  kinds_kept told s other may expected kinds = kinds
