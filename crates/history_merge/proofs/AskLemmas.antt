-- Requests ask the reactor until they are taken, and what was taken was called: each event keeps it.
use Rattle.std.proofs.Common.{◌≡◌, ◌≢◌, ℕ, Bool, true, false, cond, not, List, Option, Some, None, inl, inr, refl, sym, ap, subst, ◌∙◌, arith, get_or-set_same, get_or-set_other}
use Rattle.std.specs.Prelude.{◌||◌, ◌==◌, slice_get, slice_index_or}
use Rattle.std.specs.Option.{unwrap_or}
use Rattle.std.proofs.lemmas.Bool.{and_parts, cases_eq, eq-eqb}
use Rattle.asio_types.specs.declared.code.Code.{Code}
use Rattle.asio_types.specs.declared.code.Code.TheVariants as code
use Rattle.asio_types.specs.declared.event.Event.{Event}
use Rattle.asio_types.specs.declared.event.Event.TheVariants as event
use Rattle.asio_types.specs.declared.number.Lane.{Lane}
use Rattle.session_script.specs.declared.act.Act.{Act}
use Rattle.session_script.specs.declared.act.Act.TheVariants as act
use Rattle.session_script.specs.Script.{Entry, ScriptModel, is_operation}
use Rattle.session_script.specs.WellFormed.{IsWellFormed}
use Rattle.session_script.specs.Lanes.{caller_lane, is_inline, is_inside, lanes_of}
use Rattle.history_rules.specs.Calls.{accepted, progressed}
use Rattle.history_rules.specs.Executions.{MayBegin, has_finished}
use Rattle.history_rules.specs.Kinds.{is_act, is_control, is_posting}
use Rattle.history_rules.specs.Legal.{MayHappen, after_event, context_after, reactor_after}
use Rattle.history_rules.specs.Order.{is_request, was_taken}
use Rattle.history_rules.specs.Requests.{reactor_after_take}
use Rattle.history_rules.specs.State.{ContextState, State, call_at, phase_at}
use Rattle.history_rules.specs.declared.phase.ActPhase.{ActPhase}
use Rattle.history_rules.specs.declared.phase.ActPhase.TheVariants as phase
use Rattle.history_rules.specs.declared.phase.ActState.{ActState}
use Rattle.history_rules.specs.declared.phase.CallPhase.{CallPhase}
use Rattle.history_rules.specs.declared.phase.CallPhase.TheVariants as call
use Rattle.history_rules.specs.declared.phase.Cause.TheVariants as cause
use Rattle.history_rules.specs.declared.phase.Step.{Step}
use Rattle.execution_laws.specs.Kinds.{was_called}
use Rattle.execution_laws.proofs.RestLemmas.{is_within}
use Rattle.reactor_turns.specs.Ahead.{IsHalfOf}
use Rattle.reactor_turns.proofs.StandingLemmas.{stands-done}
use Rattle.reactor_turns.proofs.SummingLemmas.{one_if}
use Rattle.reactor_turns.proofs.TakenLemmas.{done-taken, last-taken, take-taken, tick-taken}
use Rattle.lane_map.specs.LaneNumbers.{act_passes, asks_reactor}
use Rattle.history_merge.proofs.AlikeLemmas.{never}
use Rattle.history_merge.proofs.CalledLemmas.{stay_called}
use Rattle.history_merge.proofs.DatesLemmas.{dates_step}
use Rattle.history_merge.proofs.EachActLemmas.{Each}
use Rattle.history_merge.proofs.FrameLemmas.{called_act}
use Rattle.history_merge.proofs.NextCallLemmas.{next_within}
use Rattle.history_merge.proofs.OrderlyLemmas.{IsExpected, IsInOrder}
use Rattle.history_merge.proofs.SoLemmas.{AskStill, TakesCalled}
use Rattle.history_merge.proofs.TestLemmas.{IsSame, base_same, begin_same, call_same, back_same, phase_same, stop_same}

-- what wasn't called is uncalled
called_not : (of : CallPhase) → (was_called of ≡ true → ⊥) → of ≡ call.Uncalled
called_not call.Uncalled isnt = refl
called_not (call.Open called) isnt = absurd (isnt refl)
called_not (call.Stopping called) isnt = absurd (isnt refl)
called_not (call.Back called back) isnt = absurd (isnt refl)

uncalled_not : (of : CallPhase) → of ≡ call.Uncalled → was_called of ≡ true → ⊥
uncalled_not of is called = let wrong : true ≡ false = sym called ∙ ap was_called is in cc

pub request_there : (of : ActPhase) → is_request of ≡ true → of ≢ phase.Absent
request_there of is absent = let wrong : true ≡ false = sym is ∙ ap is_request absent in cc

module _ (script : ScriptModel) (well : IsWellFormed script) (told : Bool) (s : State) where
  -- only a take takes anything
  taken_other : (shown : Event) (n : ℕ) → (shown ≡ event.Take n → ⊥) →
      was_taken (reactor_after script told s.reactor shown) n ≡ was_taken s.reactor n
  taken_other (event.Take a) n other =
      ap (λ (taken : List Bool). slice_index_or taken n false) (take-taken script told s.reactor a well)
      ∙ get_or-set_other s.reactor.taken a n true false (λ same. other (ap event.Take (sym same)))
  taken_other (event.Done o given size) n other =
      ap (λ (taken : List Bool). slice_index_or taken n false) (done-taken script s.reactor o)
  taken_other (event.Tick now) n other =
      ap (λ (taken : List Bool). slice_index_or taken n false) (tick-taken script told s.reactor now)
  taken_other event.Last n other = ap (λ (taken : List Bool). slice_index_or taken n false) (last-taken told s.reactor)
  taken_other shown n other = refl

-- an act that asks the reactor is accepted as a request
asks_as : (caller : Option Lane) (it : Act) → asks_reactor it ≡ true →
    (is_inside caller it ≡ false) × (is_posting it ≡ false) × ((is_operation it || is_control it) ≡ true)
asks_as caller (act.Post strand) asks = absurd (cc)
asks_as caller (act.Defer strand) asks = absurd (cc)
asks_as caller (act.Dispatch strand) asks = absurd (cc)
asks_as caller act.Stop asks = absurd (cc)
asks_as None it asks = (refl, refl, refl)
asks_as (Some caller) it asks = (refl, refl, refl)

request_of : (inline posting operation control : Bool) → inline ≡ false → posting ≡ false →
    (operation || control) ≡ true →
    is_request (cond inline phase.Inside (cond posting (phase.Ready code.Ok 0 cause.Posted)
    (cond operation phase.Requested (cond control phase.Asked phase.Absent)))) ≡ true
request_of true posting operation control out unposted is = absurd (cc)
request_of false true operation control out unposted is = absurd (cc)
request_of false false true control out unposted is = refl
request_of false false false true out unposted is = refl
request_of false false false false out unposted is = absurd (cc)

pub accepted_request : (script : ScriptModel) (n : ℕ) → act_passes asks_reactor script n ≡ true →
    is_request (accepted script n) ≡ true
accepted_request script n passes = by_entry (slice_get script.acts n) refl
  where
    by_entry : (found : Option Entry) → slice_get script.acts n ≡ found → is_request (accepted script n) ≡ true
    by_entry None stands =
        absurd (let none : act_passes asks_reactor script n ≡ false = rw stands refl in
        never (act_passes asks_reactor script n) none passes)
    by_entry (Some e) stands =
        let is : act_passes asks_reactor script n ≡ asks_reactor e.act = rw stands refl in
        let as_one = asks_as (caller_lane (lanes_of script) e.parent) e.act (sym is ∙ passes) in
        let inline : is_inline script n ≡ is_inside (caller_lane (lanes_of script) e.parent) e.act = rw (stands, stands) refl in
        let posts : is_act is_posting script n ≡ is_posting e.act = rw stands refl in
        let operates : is_act is_operation script n ≡ is_operation e.act = rw stands refl in
        let controls : is_act is_control script n ≡ is_control e.act = rw stands refl in
        request_of (is_inline script n) (is_act is_posting script n) (is_act is_operation script n)
        (is_act is_control script n) (inline ∙ as_one.0) (posts ∙ as_one.1)
        (ap (λ b. b || is_act is_control script n) operates ∙ (ap (λ b. is_operation e.act || b) controls ∙ as_one.2))

-- no handler is destroyed by the event
abbrev pub IsNoDrop : Event → Type 0
IsNoDrop (event.Dropped o mark) = ⊥
IsNoDrop _ = Unit {0}

request_step : (n : ℕ) (step : Step) (of : ActPhase) → is_request (progressed step of) ≡ is_request of
request_step n step (phase.Running class progress) = refl
request_step n step other = refl

begin_no_request : (script : ScriptModel) (s : ContextState) (o : ℕ) (given : Code) (size : ℕ) →
    MayBegin script s o given size → is_request (phase_at s o) ≡ false
begin_no_request script s o given size (inl outside) = ap is_request outside.ready.1
begin_no_request script s o given size (inr within) = ap is_request within.inside

finished_no_request : (script : ScriptModel) (o : ℕ) (of : ActPhase) → has_finished script o of ≡ true → is_request of ≡ false
finished_no_request script o (phase.Running class progress) is = refl
finished_no_request script o other is = absurd (cc)

module _ (script : ScriptModel) (well : IsWellFormed script) (told : Bool) (s : State) (order : IsInOrder script s.context)
    (half : IsHalfOf script s.reactor) where
  -- what is told was taken
  pub told_taken : (o : ℕ) (given : Code) (size : ℕ) → MayHappen script told s (event.Done o given size) →
      was_taken s.reactor o ≡ true
  told_taken o given size may =
      by (was_taken s.reactor o) refl
    where
      by : (b : Bool) → was_taken s.reactor o ≡ b → was_taken s.reactor o ≡ true
      by true is = is
      by false isnt =
          absurd (let none = half.taken o isnt in
          let less = stands-done o script told s.reactor o given size may.next in
          let one : one_if (o == o) ≡ 1 = ap one_if (eq-eqb o o refl) in
          omega (arith, none, less, one))

  -- nothing is taken that wasn't called
  pub takes_kept : (shown : Event) → MayHappen script told s shown → TakesCalled s →
      TakesCalled (after_event script told s shown)
  takes_kept shown may takes n uncalled =
      let was : call_at s.context n ≡ call.Uncalled =
      called_not (call_at s.context n)
      (λ called.
      uncalled_not (call_at (context_after script s.context shown) n) uncalled
      ((stay_called script s.context shown n).still called)) in
      taken_other script well told s shown n
      (λ same.
      let take : MayHappen script told s (event.Take n) = subst (MayHappen script told s) same may in
      request_there (phase_at s.context n)
      (and_parts (is_request (phase_at s.context n)) (not (was_taken s.reactor n)) take.untaken).0
      ((order.acts n).absent was))
      ∙ takes n was

  abbrev test : ℕ → ActPhase → Bool
  test n of = is_request of

  abbrev Nowhere : ℕ → Type 0
  Nowhere n = ⊥

  abbrev Here : ℕ → ℕ → Type 0
  Here o n = n ≡ o

  -- an act asks as it did, but the one that is called or completes
  module _ (asking : AskStill script s) where
    same_asking : (shown : Event) → MayHappen script told s shown → IsExpected s.context shown →
        Each (IsSame test Nowhere) s.context.acts (context_after script s.context shown).acts →
        ((n : ℕ) → shown ≡ event.Call n → ⊥) → (reactor_after script told s.reactor shown).taken ≡ s.reactor.taken →
        AskStill script (after_event script told s shown)
    same_asking shown may expected same uncalled taken n asks called untaken =
        (same n).same (λ never. never)
        ∙ asking n asks (was n called) (ap (λ (marks : List Bool). slice_index_or marks n false) (sym taken) ∙ untaken)
      where
        was : (n : ℕ) → was_called (call_at (context_after script s.context shown) n) ≡ true →
            was_called (call_at s.context n) ≡ true
        was n called = elim ((dates_step script well told s order shown may expected n).called called) [
          | inl before ↦ before.0
          | inr now ↦ absurd (uncalled n now.0)
        ]

    pub asking_kept : (shown : Event) → MayHappen script told s shown → IsExpected s.context shown → IsNoDrop shown →
        AskStill script (after_event script told s shown)
    asking_kept (event.Call a) may expected alive = λ n asks called untaken. elim (cases_eq n a) [
      | inl same ↦
          let within = next_within script well s.context order s.reactor.failed a may in
          let here = called_act script s.context a (omega (arith, within, order.size)) in
          ap (λ n. is_request (phase_at (context_after script s.context (event.Call a)) n)) same
          ∙ (ap (λ (act : ActState). is_request act.phase) here
          ∙ accepted_request script a (subst (λ n. act_passes asks_reactor script n ≡ true) same asks))
      | inr other ↦
          (call_same test request_step script s.context (Here a) a (λ away. absurd (away refl)) n).same other
          ∙ asking n asks (was n other called) untaken
    ]
      where
        was : (n : ℕ) → n ≢ a → was_called (call_at (context_after script s.context (event.Call a)) n) ≡ true →
            was_called (call_at s.context n) ≡ true
        was n other called = elim ((dates_step script well told s order (event.Call a) may expected n).called called) [
          | inl before ↦ before.0
          | inr now ↦ absurd (other (call_of n now.0))
        ]
          where
            call_of : (n : ℕ) → event.Call a ≡ event.Call n → n ≡ a
            call_of n same = cc
    asking_kept (event.Stop (Some a)) may expected alive =
        same_asking (event.Stop (Some a)) may expected (stop_same test request_step script s.context Nowhere a)
        (λ n same. cc) refl
    asking_kept (event.Stop None) may expected alive =
        same_asking (event.Stop None) may expected (base_same test request_step script s.context Nowhere) (λ n same. cc) refl
    asking_kept (event.Back a) may expected alive =
        same_asking (event.Back a) may expected (back_same test request_step script s.context Nowhere a) (λ n same. cc) refl
    asking_kept (event.Begin o given size) may expected alive =
        same_asking (event.Begin o given size) may expected
        (begin_same test request_step script s.context Nowhere o given size
        (λ here. sym (begin_no_request script s.context o given size may))) (λ n same. cc) refl
    asking_kept (event.End o mark) may expected alive =
        same_asking (event.End o mark) may expected
        (phase_same test request_step script s.context Nowhere o phase.Ended
        (λ here. sym (finished_no_request script o (phase_at s.context o) may))) (λ n same. cc) refl
    asking_kept (event.Take a) may expected alive = λ n asks called untaken. elim (cases_eq n a) [
      | inl same ↦
          absurd (let parts = and_parts (is_request (phase_at s.context a)) (not (was_taken s.reactor a)) may.untaken in
          let within =
          is_within s.context a (request_there (phase_at s.context a) parts.0) in
          let marked : was_taken (reactor_after_take script told s.reactor a) a ≡ true =
          ap (λ (taken : List Bool). slice_index_or taken a false) (take-taken script told s.reactor a well)
          ∙ get_or-set_same s.reactor.taken a true false (omega (arith, within, order.size, half.marks)) in
          let wrong : true ≡ false =
          sym marked ∙ (ap (was_taken (reactor_after_take script told s.reactor a)) (sym same) ∙ untaken) in
          cc)
      | inr other ↦
          asking n asks called
          (sym (taken_other script well told s (event.Take a) n (λ same. other (take_of n same))) ∙ untaken)
    ]
      where
        take_of : (n : ℕ) → event.Take a ≡ event.Take n → n ≡ a
        take_of n same = cc
    asking_kept (event.Done o given size) may expected alive = λ n asks called untaken.
        let before : was_taken s.reactor n ≡ false =
        ap (λ (taken : List Bool). slice_index_or taken n false) (sym (done-taken script s.reactor o)) ∙ untaken in
        elim (cases_eq n o) [
          | inl same ↦
              absurd (never (was_taken s.reactor n) before
              (ap (was_taken s.reactor) same ∙ told_taken o given size may))
          | inr other ↦
              (phase_same test request_step script s.context (Here o) o
              (phase.Ready given size (cause.Completed s.context.events (unwrap_or s.context.turn 0)))
              (λ away. absurd (away refl)) n).same other
              ∙ asking n asks (was n called) before
        ]
      where
        was : (n : ℕ) → was_called (call_at (context_after script s.context (event.Done o given size)) n) ≡ true →
            was_called (call_at s.context n) ≡ true
        was n called = elim ((dates_step script well told s order (event.Done o given size) may expected n).called called) [
          | inl before ↦ before.0
          | inr now ↦ absurd (let wrong : event.Done o given size ≡ event.Call n = now.0 in cc)
        ]
    asking_kept (event.Tick now) may expected alive =
        same_asking (event.Tick now) may expected (base_same test request_step script s.context Nowhere) (λ n same. cc)
        (tick-taken script told s.reactor now)
    asking_kept event.Last may expected alive =
        same_asking event.Last may expected (base_same test request_step script s.context Nowhere) (λ n same. cc)
        (last-taken told s.reactor)
    asking_kept (event.Dropped o mark) may expected alive = absurd alive
    asking_kept event.Fault may expected alive =
        same_asking event.Fault may expected (base_same test request_step script s.context Nowhere) (λ n same. cc) refl
    asking_kept event.Ended may expected alive =
        same_asking event.Ended may expected (base_same test request_step script s.context Nowhere) (λ n same. cc) refl
    asking_kept event.Stopped may expected alive =
        same_asking event.Stopped may expected (base_same test request_step script s.context Nowhere) (λ n same. cc) refl
    asking_kept event.Polled may expected alive =
        same_asking event.Polled may expected (base_same test request_step script s.context Nowhere) (λ n same. cc) refl
    asking_kept event.Restart may expected alive =
        same_asking event.Restart may expected (base_same test request_step script s.context Nowhere) (λ n same. cc) refl
