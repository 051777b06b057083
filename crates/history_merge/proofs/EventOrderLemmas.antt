-- Each event keeps acts in their order, and what other lanes do is theirs alone.
use Rattle.std.proofs.Common.{◌≡◌, ◌≢◌, ℕ, ◌<◌, ◌≤◌, Bool, true, false, Some, None, inl, inr, refl, sym, ap, subst, ◌∙◌, arith}
use Rattle.std.specs.Prelude.{IsSomeAnd, slice_get}
use Rattle.std.specs.Option.{unwrap_or}
use Rattle.std.proofs.lemmas.Option.{slice_get_within}
use Rattle.asio_types.specs.Code.{class_of_code}
use Rattle.asio_types.specs.Faults.{most_faults, one_more}
use Rattle.asio_types.specs.declared.code.Class.{Class}
use Rattle.asio_types.specs.declared.code.Code.{Code}
use Rattle.asio_types.specs.declared.event.Event.{Event}
use Rattle.asio_types.specs.declared.event.Event.TheVariants as event
use Rattle.asio_types.specs.declared.number.Lane.{Lane}
use Rattle.session_script.specs.Script.{Place, ScriptModel, is_stop, parent_of}
use Rattle.session_script.specs.Lanes.{is_inline, lane_of}
use Rattle.session_script.specs.WellFormed.{IsWellFormed}
use Rattle.history_rules.specs.Calls.{IsNextOf, accepted, body_at, returned, stopping, with_progress}
use Rattle.history_rules.specs.Executions.{MayBegin, begun, has_finished}
use Rattle.history_rules.specs.Kinds.{is_act}
use Rattle.history_rules.specs.Legal.{MayHappen, context_after}
use Rattle.history_rules.specs.Rounds.{is_unspent}
use Rattle.history_rules.specs.State.{ContextState, State, act_at, call_at, no_progress, phase_at, with_call, with_phase}
use Rattle.history_rules.specs.declared.phase.ActPhase.{ActPhase}
use Rattle.history_rules.specs.declared.phase.ActPhase.TheVariants as phase
use Rattle.history_rules.specs.declared.phase.ActState.{ActState}
use Rattle.history_rules.specs.declared.phase.CallPhase.{CallPhase}
use Rattle.history_rules.specs.declared.phase.CallPhase.TheVariants as call
use Rattle.history_rules.specs.declared.phase.Cause.TheVariants as cause
use Rattle.history_rules.specs.declared.phase.Progress.{Progress}
use Rattle.history_rules.specs.declared.phase.Step.{Step}
use Rattle.history_rules.specs.declared.phase.Step.TheVariants as step
use Rattle.execution_laws.specs.Order.{has_begun}
use Rattle.execution_laws.specs.Ready.{IsCallPast, IsCausePast}
use Rattle.execution_laws.proofs.CountLemmas.{one_more-is}
use Rattle.execution_laws.proofs.MovesLemmas.{past_later}
use Rattle.execution_laws.proofs.PlaceLemmas.{few_acts, parent_is, within_script}
use Rattle.execution_laws.proofs.ScriptLemmas.{few_in}
use Rattle.execution_laws.proofs.StateLemmas.{acts_in}
use Rattle.history_merge.specs.Among.{IsOfOthers, IsPlaceOff}
use Rattle.history_merge.proofs.EachActLemmas.{Each}
use Rattle.history_merge.proofs.FrameLemmas.{RoundPart, acts_limited, acts_spent, length-after, opening-limited, opening-spent, part-after, round_after, round_part}
use Rattle.history_merge.proofs.NextCallLemmas.{fresh_next, made_by, uncalled_next}
use Rattle.history_merge.proofs.OrderlyLemmas.{HasMade, IsActInOrder, IsCallOf, IsExpected, IsInOrder, IsLater, IsMadeIn, call_later, called_later, made_begun, past_returned, past_stopping, phase_later, progress_later, returned_made, same_later, set_later, stopping_made, stopping_was}

finished_there : (script : ScriptModel) (o : ℕ) (of : ActPhase) → has_finished script o of ≡ true → of ≢ phase.Absent
finished_there script o (phase.Running class progress) is absent = absurd (cc)
finished_there script o other is absent = absurd (cc)

unspent_there : (of : ActPhase) → is_unspent of ≡ true → of ≢ phase.Absent
unspent_there of is absent = let wrong : true ≡ false = sym is ∙ ap is_unspent absent in absurd (cc)

-- a handler that is to begin is there, and hasn't begun
pub record IsToBegin (of : ActPhase) : Type 0 where
  pub there : of ≢ phase.Absent
  pub isnt : has_begun of ≡ false

pub to_begin : (script : ScriptModel) (s : ContextState) (o : ℕ) (given : Code) (size : ℕ) →
    MayBegin script s o given size → IsToBegin (phase_at s o)
to_begin script s o given size (inl outside) = record {
  there = λ absent.
      let wrong : phase.Ready given size outside.ready.0 ≡ phase.Absent = sym outside.ready.1 ∙ absent in absurd (cc);
  isnt = ap has_begun outside.ready.1;
}
to_begin script s o given size (inr within) = record {
  there = λ absent. let wrong : phase.Inside ≡ phase.Absent = sym within.inside ∙ absent in absurd (cc);
  isnt = ap has_begun within.inside;
}

opening_step : (place : Place) (step : Step) (s : ContextState) (k : ℕ) → k < most_faults → k < s.opening.made →
    k < (with_progress place step s).opening.made
opening_step None step.Made s k few made = omega (arith, few, made)
opening_step None step.Back s k few made = made
opening_step (Some at) step s k few made = made

turn_later : (shown : Event) (part : RoundPart) → part.events < most_faults → unwrap_or part.turn 0 ≤ part.events →
    unwrap_or (round_after shown part).turn 0 ≤ (round_after shown part).events
turn_later (event.Stop None) part room past = past
turn_later (event.Take a) part room past = omega (arith, room)
turn_later (event.Tick now) part room past = omega (arith, room)
turn_later event.Last part room past = omega (arith, room)
turn_later event.Fault part room past = omega arith
turn_later event.Ended part room past = omega arith
turn_later event.Stopped part room past = omega arith
turn_later event.Polled part room past = omega arith
turn_later other part room past = omega (arith, room, past)

module _ (script : ScriptModel) (well : IsWellFormed script) (told : Bool) (s : State)
    (order : IsInOrder script s.context) (room : s.context.events < most_faults) where
  abbrev now : ℕ
  now = s.context.events

  abbrev later : ℕ
  later = one_more s.context.events

  less : now < later
  less = let is = one_more-is now room in omega (arith, is)

  base : (shown : Event) → Each (IsLater shown later) s.context.acts s.context.acts
  base shown n = same_later shown now later less n (act_at s.context n) (order.acts n)

  set_call : (shown : Event) (a : ℕ) (to : CallPhase) → IsCallPast later to →
      (to ≡ call.Uncalled → call_at s.context a ≡ call.Uncalled) →
      (call_at s.context a ≡ call.Uncalled → to ≡ call.Uncalled) →
      Each (IsLater shown later) s.context.acts (with_call s.context a to).acts
  set_call shown a to past back forth =
      set_later shown now later less s.context.acts s.context.acts a (record (act_at s.context a) { call = to }) (base shown)
      (call_later shown now later less a to (act_at s.context a) (order.acts a) past back forth)

  set_phase : (shown : Event) (o : ℕ) (to : ActPhase) → phase_at s.context o ≢ phase.Absent → IsCausePast later to →
      ((class : Class) (k : ℕ) → HasMade class k (phase_at s.context o) → HasMade class k to) →
      Each (IsLater shown later) s.context.acts (with_phase s.context o to).acts
  set_phase shown o to there past made =
      set_later shown now later less s.context.acts s.context.acts o (record (act_at s.context o) { phase = to }) (base shown)
      (phase_later shown now later less o to (act_at s.context o) (order.acts o) there past made)

  unbegun : (o : ℕ) (to : ActPhase) → has_begun (phase_at s.context o) ≡ false → (class : Class) (k : ℕ) →
      HasMade class k (phase_at s.context o) → HasMade class k to
  unbegun o to isnt class k made =
      absurd (let wrong : true ≡ false = sym (made_begun class k (phase_at s.context o) made) ∙ isnt in cc)

  pub acts_later : (shown : Event) → MayHappen script told s shown → IsExpected s.context shown →
      Each (IsLater shown later) s.context.acts (context_after script s.context shown).acts
  acts_later (event.Call a) may expected =
      let new : ActState = record { call = call.Open now; phase = accepted script a } in
      let absent : phase_at s.context a ≡ phase.Absent =
      (order.acts a).absent (uncalled_next script well s.context order s.reactor.failed a may) in
      set_later (event.Call a) now later less s.context.acts (with_progress (parent_of script a) step.Made s.context).acts a new
      (progress_later (event.Call a) now later less (parent_of script a) step.Made s.context.acts s.context (base (event.Call a)))
      (called_later script a now later (act_at s.context a) less absent)
  acts_later (event.Stop (Some a)) may expected =
      set_call (event.Stop (Some a)) a (stopping (call_at s.context a))
      (past_stopping later (call_at s.context a)
      (past_later now later (call_at s.context a) (omega (arith, less)) (order.acts a).called))
      (stopping_made (call_at s.context a)) (stopping_was (call_at s.context a))
  acts_later (event.Back a) may expected =
      let back : ContextState = with_call s.context a (returned now (call_at s.context a)) in
      subst (Each (IsLater (event.Back a) later) s.context.acts)
      (sym (acts_limited script (parent_of script a) a (is_act is_stop script a)
      (with_progress (parent_of script a) step.Back back)))
      (progress_later (event.Back a) now later less (parent_of script a) step.Back s.context.acts back
      (set_call (event.Back a) a (returned now (call_at s.context a))
      (past_returned now later (call_at s.context a) less (order.acts a).called)
      (returned_made now (call_at s.context a)) (λ is. ap (returned now) is)))
  acts_later (event.Begin o given size) may expected =
      let to : ActPhase = phase.Running (class_of_code given) no_progress in
      let begins = to_begin script s.context o given size may in
      subst (Each (IsLater (event.Begin o given size) later) s.context.acts)
      (sym (acts_spent (is_inline script o) (lane_of script o) (begun s.context o given)))
      (set_phase (event.Begin o given size) o to begins.there tt (unbegun o to begins.isnt))
  acts_later (event.End o mark) may expected =
      set_phase (event.End o mark) o phase.Ended (finished_there script o (phase_at s.context o) may) tt (λ class k made. tt)
  acts_later (event.Done o given size) may expected =
      let to : ActPhase = phase.Ready given size (cause.Completed now (unwrap_or s.context.turn 0)) in
      set_phase (event.Done o given size) o to
      (λ absent. let wrong : phase.Requested ≡ phase.Absent = sym expected ∙ absent in absurd (cc))
      (order.turn, less) (unbegun o to (ap has_begun expected))
  acts_later (event.Dropped o mark) may expected =
      set_phase (event.Dropped o mark) o phase.Dropped (unspent_there (phase_at s.context o) may.next.left) tt
      (unbegun o phase.Dropped expected)
  acts_later other may expected = base other

  opening_later : (shown : Event) (k : ℕ) → k < most_faults → k < s.context.opening.made →
      k < (context_after script s.context shown).opening.made
  opening_later (event.Call a) k few made = opening_step (parent_of script a) step.Made s.context k few made
  opening_later (event.Back a) k few made =
      let back : ContextState = with_call s.context a (returned now (call_at s.context a)) in
      subst (λ (p : Progress). k < p.made)
      (sym (opening-limited script (parent_of script a) a (is_act is_stop script a)
      (with_progress (parent_of script a) step.Back back)))
      (opening_step (parent_of script a) step.Back back k few made)
  opening_later (event.Begin o given size) k few made =
      subst (λ (p : Progress). k < p.made)
      (sym (opening-spent (is_inline script o) (lane_of script o) (begun s.context o given))) made
  opening_later (event.Stop (Some a)) k few made = made
  opening_later (event.Stop None) k few made = made
  opening_later other k few made = made

  -- the act that is called now
  made_now : (shown : Event) → MayHappen script told s shown → (place : Place) (k n : ℕ) → IsCallOf shown n →
      k < most_faults → slice_get (acts_in script place) k ≡ Some n →
      IsMadeIn (context_after script s.context shown) place k
  made_now (event.Call a) may place k n is few at =
      let here : slice_get (acts_in script place) k ≡ Some a = at ∙ ap Some is in
      let under : parent_of script a ≡ place = parent_is script well place a k here in
      made_by script well s.context order s.reactor.failed a place under
      (subst (λ place. IsSomeAnd (body_at script s.reactor.failed s.context place) (IsNextOf a)) under may) k few here
      (within_script script well place a k here)
  made_now other may place k n is few at = absurd is

  made_later : (shown : Event) → MayHappen script told s shown → IsExpected s.context shown → (place : Place) (k n : ℕ) →
      slice_get (acts_in script place) k ≡ Some n →
      call_at (context_after script s.context shown) n ≢ call.Uncalled →
      IsMadeIn (context_after script s.context shown) place k
  made_later shown may expected place k n at called =
      let few : k < most_faults =
      omega (arith, slice_get_within (acts_in script place) k n at, few_in place 0 script.acts, few_acts script well) in
      elim ((acts_later shown may expected n).called called) [
        | inl was ↦ still place few (order.made place k n at was)
        | inr is ↦ made_now shown may place k n is few at
      ]
    where
      still : (place : Place) → k < most_faults → IsMadeIn s.context place k →
          IsMadeIn (context_after script s.context shown) place k
      still None few made = opening_later shown k few made
      still (Some at) few made = (acts_later shown may expected at.0).made at.1 k few made

  -- an event that is shown at a place of its own keeps it all
  counted_order : (shown : Event) → MayHappen script told s shown → IsExpected s.context shown →
      (round_after shown (round_part s.context)).events ≡ later → IsInOrder script (context_after script s.context shown)
  counted_order shown may expected counts =
      let t : ContextState = context_after script s.context shown in
      let part = part-after script s.context shown in
      let events : t.events ≡ later = ap (λ (p : RoundPart). p.events) part ∙ counts in
      record {
        size = length-after script s.context shown ∙ order.size;
        acts = λ n. subst (λ now. IsActInOrder now (act_at t n)) (sym events) (acts_later shown may expected n).order;
        turn =
            subst (λ (p : RoundPart). unwrap_or p.turn 0 ≤ p.events) (sym part)
            (turn_later shown (round_part s.context) room order.turn);
        made = made_later shown may expected;
      }

  pub in_order : (shown : Event) → MayHappen script told s shown → IsExpected s.context shown →
      IsInOrder script (context_after script s.context shown)
  in_order (event.Stop None) may expected = record {
    size = order.size;
    acts = order.acts;
    turn = order.turn;
    made = λ place k n at called. made_same place k (order.made place k n at called);
  }
    where
      made_same : (place : Place) (k : ℕ) → IsMadeIn s.context place k →
          IsMadeIn (context_after script s.context (event.Stop None)) place k
      made_same None k made = made
      made_same (Some at) k made = made
  in_order (event.Stop (Some a)) may expected = counted_order (event.Stop (Some a)) may expected refl
  in_order other may expected = counted_order other may expected refl

-- the event is of no handler of this lane, nor of a call by one
abbrev pub IsOffLane : ScriptModel → Lane → Event → Type 0
IsOffLane script lane (event.Call a) = IsPlaceOff script lane (parent_of script a)
IsOffLane script lane (event.Stop (Some a)) = IsPlaceOff script lane (parent_of script a)
IsOffLane script lane (event.Back a) = IsPlaceOff script lane (parent_of script a)
IsOffLane script lane (event.Begin o code size) = lane_of script o ≢ lane
IsOffLane script lane (event.End o mark) = lane_of script o ≢ lane
IsOffLane script lane (event.Dropped o mark) = lane_of script o ≢ lane
IsOffLane script lane _ = Unit {0}

-- what others do is theirs alone
pub is_of_others : (script : ScriptModel) (well : IsWellFormed script) (told : Bool) (lane : Lane) (s : State)
    (shown : Event) → IsInOrder script s.context → MayHappen script told s shown → IsExpected s.context shown →
    IsOffLane script lane shown → IsOfOthers script lane s.context shown
is_of_others script well told lane s (event.Call a) order may expected off =
    (off, fresh_next script well s.context order s.reactor.failed a may)
is_of_others script well told lane s (event.Stop (Some a)) order may expected off = off
is_of_others script well told lane s (event.Stop None) order may expected off = tt
is_of_others script well told lane s (event.Back a) order may expected off = off
is_of_others script well told lane s (event.Begin o code size) order may expected off = off
is_of_others script well told lane s (event.End o mark) order may expected off = off
is_of_others script well told lane s (event.Done o code size) order may expected off = expected
is_of_others script well told lane s (event.Dropped o mark) order may expected off = off
is_of_others script well told lane s other order may expected off = tt
