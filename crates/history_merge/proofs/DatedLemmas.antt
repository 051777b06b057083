-- All dates of a state are those of events: each event that is legal and expected keeps it.
use Rattle.std.proofs.Common.{Option, ◌≡◌, ◌⊎◌, ℕ, ◌<◌, Bool, true, false, cond, List, [], ◌∷◌, ◌++◌, Some, None, inl, inr, length, take, refl, sym, ap, subst, ◌∙◌, arith}
use Rattle.std.specs.Option.{unwrap_or}
use Rattle.asio_types.specs.declared.code.Code.{Code}
use Rattle.asio_types.specs.declared.code.Code.TheVariants as code
use Rattle.asio_types.specs.declared.event.Event.{Event}
use Rattle.asio_types.specs.declared.event.Event.TheVariants as event
use Rattle.session_script.specs.Script.{ScriptModel, is_operation}
use Rattle.session_script.specs.WellFormed.{IsWellFormed}
use Rattle.session_script.specs.Lanes.{is_inline}
use Rattle.history_rules.specs.Calls.{accepted, progressed}
use Rattle.history_rules.specs.Kinds.{is_act, is_control, is_posting}
use Rattle.history_rules.specs.Legal.{MayHappen, context_after}
use Rattle.history_rules.specs.Order.{called_at, is_request}
use Rattle.history_rules.specs.State.{ContextState, State, act_at, call_at, phase_at}
use Rattle.history_rules.specs.declared.phase.ActPhase.{ActPhase}
use Rattle.history_rules.specs.declared.phase.ActPhase.TheVariants as phase
use Rattle.history_rules.specs.declared.phase.ActState.{ActState}
use Rattle.history_rules.specs.declared.phase.Cause.TheVariants as cause
use Rattle.history_rules.specs.declared.phase.Step.{Step}
use Rattle.execution_laws.specs.Kinds.{was_called}
use Rattle.execution_laws.proofs.StateLemmas.{act_at-same}
use Rattle.execution_laws.proofs.RestLemmas.{is_within}
use Rattle.history_merge.proofs.CountedLemmas.{counted_apart, counted_in, is_counted}
use Rattle.history_merge.proofs.EachActLemmas.{Each}
use Rattle.history_merge.proofs.AskLemmas.{IsNoDrop}
use Rattle.history_merge.proofs.DatesLemmas.{AreDated, IsAwaitedOp, IsDatedStep, IsShownAt, IsStartedAt, IsTurnBefore, StandsTold, dates_step, get_within, is_dropped, is_over, is_past, is_start, is_told, shown_before, shown_later, shown_now}
use Rattle.history_merge.proofs.FrameLemmas.{RoundPart, begun_act, called_act, part-after, round_after, round_part}
use Rattle.history_merge.proofs.KindLemmas.{AreOfKind, op_is}
use Rattle.history_merge.proofs.TestLemmas.{IsSame, back_same, base_same, begin_same, call_same, phase_same, stop_same}
use Rattle.history_merge.proofs.NextCallLemmas.{next_within}
use Rattle.history_merge.proofs.OrderlyLemmas.{IsExpected, IsInOrder}

turn_by : (shown : Event) (part : RoundPart) (t : ℕ) → (round_after shown part).turn ≡ Some t →
    (part.turn ≡ Some t) ⊎ ((is_start shown ≡ true) × (t ≡ part.events))
turn_by (event.Take a) part t is = inr (refl, (let same : part.events ≡ t = cc in sym same))
turn_by (event.Tick now) part t is = inr (refl, (let same : part.events ≡ t = cc in sym same))
turn_by event.Last part t is = inr (refl, (let same : part.events ≡ t = cc in sym same))
turn_by event.Fault part t is = absurd (cc)
turn_by event.Ended part t is = absurd (cc)
turn_by event.Stopped part t is = absurd (cc)
turn_by event.Polled part t is = absurd (cc)
turn_by (event.Stop (Some a)) part t is = inl is
turn_by (event.Stop None) part t is = inl is
turn_by other part t is = inl is

start_counts : (first : Event) → is_start first ≡ true → is_counted first ≡ true
start_counts (event.Take a) is = refl
start_counts (event.Tick now) is = refl
start_counts event.Last is = refl
start_counts (event.Stop None) is = absurd (cc)
start_counts (event.Stop (Some a)) is = refl
start_counts other is = refl

take_all : {A : Type 0} → (xs : List A) → take (length xs) xs ≡ xs
take_all [] = refl
take_all (x ∷ xs) = ap (λ ys. x ∷ ys) (take_all xs)

turn_later : (events : List Event) (next : Event) (d t : ℕ) → IsTurnBefore events d t →
    IsTurnBefore (events ++ next ∷ []) d t
turn_later events next d t (inl none) = inl none
turn_later events next d t (inr before) = inr (
  record {
    first = before.0.first;
    shown = shown_later events next before.0.first t before.0.shown;
    starts = before.0.starts;
  },
  before.1,
)

-- what a call accepts as a request is an operation that neither is a posting nor executes inside its call
awaited_by : (inline posting operation control : Bool) →
    cond inline phase.Inside (cond posting (phase.Ready code.Ok 0 cause.Posted)
    (cond operation phase.Requested (cond control phase.Asked phase.Absent))) ≡ phase.Requested →
    (inline ≡ false) × (posting ≡ false) × (operation ≡ true)
awaited_by true posting operation control is = absurd (cc)
awaited_by false true operation control is = absurd (cc)
awaited_by false false true control is = (refl, refl, refl)
awaited_by false false false true is = absurd (cc)
awaited_by false false false false is = absurd (cc)

dropped_step : (n : ℕ) (step : Step) (of : ActPhase) → is_dropped (progressed step of) ≡ is_dropped of
dropped_step n step (phase.Running class progress) = refl
dropped_step n step other = refl

accepted_undropped : (inline posting operation control : Bool) →
    is_dropped (cond inline phase.Inside (cond posting (phase.Ready code.Ok 0 cause.Posted)
    (cond operation phase.Requested (cond control phase.Asked phase.Absent)))) ≡ false
accepted_undropped true posting operation control = refl
accepted_undropped false true operation control = refl
accepted_undropped false false true control = refl
accepted_undropped false false false true = refl
accepted_undropped false false false false = refl

module _ (script : ScriptModel) (well : IsWellFormed script) (told : Bool) (s : State) (order : IsInOrder script s.context)
    (undropped : (n : ℕ) → is_dropped (phase_at s.context n) ≡ false) where
  abbrev tests : ℕ → ActPhase → Bool
  tests n of = is_dropped of

  abbrev Never : ℕ → Type 0
  Never n = ⊥

  -- no handler is destroyed by any other event
  same_dropped : (shown : Event) → MayHappen script told s shown → IsExpected s.context shown → IsNoDrop shown →
      Each (IsSame tests Never) s.context.acts (context_after script s.context shown).acts
  same_dropped (event.Call a) may expected alive =
      call_same tests dropped_step script s.context Never a
      (λ here.
      accepted_undropped (is_inline script a) (is_act is_posting script a) (is_act is_operation script a)
      (is_act is_control script a) ∙ sym (undropped a))
  same_dropped (event.Stop (Some a)) may expected alive = stop_same tests dropped_step script s.context Never a
  same_dropped (event.Stop None) may expected alive = base_same tests dropped_step script s.context Never
  same_dropped (event.Back a) may expected alive = back_same tests dropped_step script s.context Never a
  same_dropped (event.Begin o given size) may expected alive =
      begin_same tests dropped_step script s.context Never o given size (λ here. sym (undropped o))
  same_dropped (event.End o mark) may expected alive =
      phase_same tests dropped_step script s.context Never o phase.Ended (λ here. sym (undropped o))
  same_dropped (event.Done o given size) may expected alive =
      phase_same tests dropped_step script s.context Never o
      (phase.Ready given size (cause.Completed s.context.events (unwrap_or s.context.turn 0))) (λ here. sym (undropped o))
  same_dropped (event.Dropped o mark) may expected alive = absurd alive
  same_dropped other may expected alive = base_same tests dropped_step script s.context Never

module _ (script : ScriptModel) (well : IsWellFormed script) (told : Bool) (events : List Event) (s : State)
    (order : IsInOrder script s.context) (count : s.context.events ≡ counted_in events) (dated : AreDated script events s.context)
    (kinds : AreOfKind script s.context.acts)
    (shown : Event) (may : MayHappen script told s shown) (expected : IsExpected s.context shown) (alive : IsNoDrop shown) where
  abbrev after : ContextState
  after = context_after script s.context shown

  steps : Each (IsDatedStep shown s.context.events (unwrap_or s.context.turn 0)) s.context.acts after.acts
  steps = dates_step script well told s order shown may expected

  new_told : (n : ℕ) (given : Code) (size : ℕ) → shown ≡ event.Done n given size →
      StandsTold given size s.context.events (phase_at after n)
  new_told n given size is =
      subst (λ other. StandsTold given size s.context.events (phase_at (context_after script s.context other) n)) (sym is)
      (by_done (subst (IsExpected s.context) is expected))
    where
      by_done : phase_at s.context n ≡ phase.Requested →
          StandsTold given size s.context.events (phase_at (context_after script s.context (event.Done n given size)) n)
      by_done asked =
          let within =
          is_within s.context n (λ absent. let wrong : phase.Requested ≡ phase.Absent = sym asked ∙ absent in absurd (cc)) in
          is_told (unwrap_or s.context.turn 0)
          (ap (λ (act : ActState). act.phase) (act_at-same s.context n (record (act_at s.context n) {
            phase = phase.Ready given size (cause.Completed s.context.events (unwrap_or s.context.turn 0));
          }) within))

  still_told : (n : ℕ) (given : Code) (size d : ℕ) → StandsTold given size d (phase_at s.context n) →
      StandsTold given size d (phase_at after n)
  still_told n given size d (is_over over) = is_over ((steps n).past over)
  still_told n given size d (is_told turn ready) = elim ((steps n).stays given size d turn ready) [
    | inl still ↦ is_told turn still
    | inr over ↦ is_over over
  ]

  new_begun : (n : ℕ) (given : Code) (size : ℕ) → shown ≡ event.Begin n given size → is_past (phase_at after n) ≡ true
  new_begun n given size is =
      subst (λ other. is_past (phase_at (context_after script s.context other) n) ≡ true) (sym is)
      (by_begin (subst (MayHappen script told s) is may))
    where
      by_begin : MayHappen script told s (event.Begin n given size) →
          is_past (phase_at (context_after script s.context (event.Begin n given size)) n) ≡ true
      by_begin begins =
          ap (λ (act : ActState). is_past act.phase) (begun_act script s.context n (begin_within begins) given)
        where
          begin_within : MayHappen script told s (event.Begin n given size) → n < length s.context.acts
          begin_within (inl outside) =
              is_within s.context n (λ absent.
              let wrong : phase.Ready given size outside.ready.0 ≡ phase.Absent = sym outside.ready.1 ∙ absent in absurd (cc))
          begin_within (inr inside) =
              is_within s.context n
              (λ absent. let wrong : phase.Inside ≡ phase.Absent = sym inside.inside ∙ absent in absurd (cc))

  new_call : (n : ℕ) → shown ≡ event.Call n →
      (was_called (call_at after n) ≡ true) × (called_at (call_at after n) ≡ s.context.events)
  new_call n is =
      subst (λ other. (was_called (call_at (context_after script s.context other) n) ≡ true)
      × (called_at (call_at (context_after script s.context other) n) ≡ s.context.events)) (sym is)
      (by_call (subst (MayHappen script told s) is may))
    where
      by_call : MayHappen script told s (event.Call n) →
          (was_called (call_at (context_after script s.context (event.Call n)) n) ≡ true)
          × (called_at (call_at (context_after script s.context (event.Call n)) n) ≡ s.context.events)
      by_call calls =
          let within = next_within script well s.context order s.reactor.failed n calls in
          let here = called_act script s.context n (omega (arith, within, order.size)) in
          (ap (λ (act : ActState). was_called act.call) here, ap (λ (act : ActState). called_at act.call) here)

  -- a turn goes on, or begins now
  turn_now : (t : ℕ) → after.turn ≡ Some t → IsStartedAt (events ++ shown ∷ []) t
  turn_now t is = elim (turn_by shown (round_part s.context) t (ap (λ (p : RoundPart). p.turn) (sym (part-after script s.context shown)) ∙ is)) [
    | inl was ↦
        let before = dated.turn t was in
        record {
          first = before.first;
          shown = shown_later events shown before.first t before.shown;
          starts = before.starts;
        }
    | inr now ↦ record { first = shown; shown = shown_now events shown shown t refl (now.1 ∙ count); starts = now.0 }
  ]

  turn_before : (t : ℕ) → t ≡ unwrap_or s.context.turn 0 → IsTurnBefore (events ++ shown ∷ []) (counted_in events) t
  turn_before t is = by_turn s.context.turn refl
    where
      by_turn : (found : Option ℕ) → s.context.turn ≡ found → IsTurnBefore (events ++ shown ∷ []) (counted_in events) t
      by_turn None none = inl (is ∙ ap (λ found. unwrap_or found 0) none)
      by_turn (Some u) at =
          let before = dated.turn u at in
          let same : t ≡ u = is ∙ ap (λ found. unwrap_or found 0) at in
          let within = get_within events before.shown.at before.first before.shown.there in
          let less : counted_in (take before.shown.at events) < counted_in (take (length events) events) =
          counted_apart events before.shown.at (length events) before.first before.shown.there
          (start_counts before.first before.starts) within in
          let all : counted_in (take (length events) events) ≡ counted_in events = ap counted_in (take_all events) in
          let here = before.shown.counts in
          inr (
            subst (IsStartedAt (events ++ shown ∷ [])) (sym same) (record {
              first = before.first;
              shown = shown_later events shown before.first u before.shown;
              starts = before.starts;
            }),
            omega (arith, same, less, all, here),
          )

  new_kind : (n : ℕ) (given : Code) (size : ℕ) → shown ≡ event.Done n given size → IsAwaitedOp script n
  new_kind n given size is =
      let asked : phase_at s.context n ≡ phase.Requested = subst (IsExpected s.context) is expected in
      let accepts : phase.Requested ≡ accepted script n = sym asked ∙ (kinds n).asked (ap is_request asked) in
      let kind =
      awaited_by (is_inline script n) (is_act is_posting script n) (is_act is_operation script n)
      (is_act is_control script n) (sym accepts) in
      record { op = sym (op_is script n) ∙ kind.2; unentered = kind.0; unposted = kind.1 }

  not_again : (n : ℕ) (given other : Code) (size most d : ℕ) → IsShownAt events (event.Done n given size) d →
      shown ≡ event.Done n other most → ⊥
  not_again n given other size most d was is =
      stands_no (phase_at s.context n) (dated.told n given size d was) (subst (IsExpected s.context) is expected)
    where
      stands_no : (of : ActPhase) → StandsTold given size d of → of ≡ phase.Requested → ⊥
      stands_no of (is_over over) asked = let wrong : true ≡ false = sym over ∙ ap is_past asked in cc
      stands_no of (is_told turn ready) asked =
          let wrong : phase.Ready given size (cause.Completed d turn) ≡ phase.Requested = sym ready ∙ asked in cc

  abbrev test : ℕ → ActPhase → Bool
  test n of = is_dropped of

  abbrev Nowhere : ℕ → Type 0
  Nowhere n = ⊥

  undropped_by : Each (IsSame test Nowhere) s.context.acts after.acts → (n : ℕ) → is_dropped (phase_at after n) ≡ false
  undropped_by each n = (each n).same (λ never. never) ∙ dated.undropped n

  -- so it is behind the next event
  pub dated_next : AreDated script (events ++ shown ∷ []) after
  dated_next = record {
    called = λ n is. elim ((steps n).called is) [
      | inl was ↦
          subst (IsShownAt (events ++ shown ∷ []) (event.Call n)) (sym was.1)
          (shown_later events shown (event.Call n) (called_at (call_at s.context n)) (dated.called n was.0))
      | inr new ↦ shown_now events shown (event.Call n) (called_at (call_at after n)) new.0 (new.1 ∙ count)
    ];
    dates = λ n d is. elim (shown_before events shown (event.Call n) d is) [
      | inl was ↦
          let before = dated.dates n d was in
          let kept = (steps n).keeps before.0 in
          (kept.0, kept.1 ∙ before.1)
      | inr new ↦
          let called = new_call n new.0 in
          (called.0, called.1 ∙ (count ∙ sym new.1))
    ];
    back = λ n c b is. elim ((steps n).back c b is) [
      | inl was ↦ shown_later events shown (event.Back n) b (dated.back n c b was)
      | inr new ↦ shown_now events shown (event.Back n) b new.0 (new.1 ∙ count)
    ];
    caused = λ n given size d t is. elim ((steps n).caused given size d t is) [
      | inl was ↦
          let before = dated.caused n given size d t was in
          (shown_later events shown (event.Done n given size) d before.0, turn_later events shown d t before.1)
      | inr new ↦ (
        shown_now events shown (event.Done n given size) d new.0 (new.1 ∙ count),
        subst (λ d. IsTurnBefore (events ++ shown ∷ []) d t) (sym (new.1 ∙ count)) (turn_before t new.2),
      )
    ];
    turn = turn_now;
    kind = λ n given size d is. elim (shown_before events shown (event.Done n given size) d is) [
      | inl was ↦ dated.kind n given size d was
      | inr new ↦ new_kind n given size new.0
    ];
    once = λ n one two first second d e here there. elim (shown_before events shown (event.Done n one first) d here) [
      | inl was ↦ elim (shown_before events shown (event.Done n two second) e there) [
        | inl also ↦ dated.once n one two first second d e was also
        | inr new ↦ absurd (not_again n one two first second d was new.0)
      ]
      | inr new ↦ elim (shown_before events shown (event.Done n two second) e there) [
        | inl was ↦ absurd (not_again n two one second first e was new.0)
        | inr also ↦ new.1 ∙ sym also.1
      ]
    ];
    undropped = undropped_by (same_dropped script well told s order dated.undropped shown may expected alive);
    told = λ n given size d is. elim (shown_before events shown (event.Done n given size) d is) [
      | inl was ↦ still_told n given size d (dated.told n given size d was)
      | inr new ↦
          subst (λ d. StandsTold given size d (phase_at after n)) (count ∙ sym new.1) (new_told n given size new.0)
    ];
    begun = λ n given size d is. elim (shown_before events shown (event.Begin n given size) d is) [
      | inl was ↦ (steps n).past (dated.begun n given size d was)
      | inr new ↦ new_begun n given size new.0
    ];
  }
