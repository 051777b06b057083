-- Each round closes once, and behind the last handlers are destroyed.
use Rattle.std.proofs.Common.{◌≡◌, ◌⊎◌, ℕ, ◌≤◌, Bool, true, false, cond, List, [], ◌∷◌, ◌++◌, Option, Some, None, inl, inr, length, take, refl, sym, ap, ◌∙◌, arith}
use Rattle.std.specs.List.{Contains, count_by}
use Rattle.std.specs.Prelude.{IsSome, slice_get}
use Rattle.std.proofs.lemmas.List.Elements.{Contains-append_left, Contains-push}
use Rattle.std.proofs.lemmas.List.Sums.{sum_by-cons}
use Rattle.std.proofs.lemmas.Option.{slice_get_within}
use Rattle.asio_types.specs.declared.code.Class.{Class}
use Rattle.asio_types.specs.declared.event.Event.{Event}
use Rattle.asio_types.specs.declared.event.Event.TheVariants as event
use Rattle.session_script.specs.Script.{Place, ScriptModel, act_of, is_stop, opening_of, parent_of}
use Rattle.session_script.specs.WellFormed.{IsWellFormed}
use Rattle.session_script.specs.declared.round.Pace.{Pace}
use Rattle.session_script.specs.declared.round.Pace.TheVariants as pace
use Rattle.session_script.specs.declared.round.Round.{Round}
use Rattle.history_rules.specs.Calls.{is_made, is_open, returned, with_progress}
use Rattle.history_rules.specs.Executions.{begun, has_finished}
use Rattle.history_rules.specs.Legal.{IsLegalSoFar, MayHappen, after_event, state_of}
use Rattle.history_rules.specs.Performing.{performed}
use Rattle.history_rules.specs.Rounds.{AllClosed, RoundIsOpen, is_run, is_running, runs}
use Rattle.history_rules.specs.State.{ContextState, State, call_at, first_state, phase_at, with_call}
use Rattle.history_rules.specs.Time.{at_last, at_time}
use Rattle.history_rules.specs.declared.phase.ActPhase.{ActPhase}
use Rattle.history_rules.specs.declared.phase.ActPhase.TheVariants as phase
use Rattle.history_rules.specs.declared.phase.CallPhase.{CallPhase}
use Rattle.history_rules.specs.declared.phase.CallPhase.TheVariants as call
use Rattle.history_rules.specs.declared.phase.Step.TheVariants as step
use Rattle.session_script.specs.Lanes.{is_inline, lane_of}
use Rattle.history_laws.specs.AfterStop.{is_round_end}
use Rattle.history_laws.specs.Events.{StandsAt}
use Rattle.history_laws.specs.Rounds.{RoundsCloseOnce, closed_before, is_drop}
use Rattle.history_laws.proofs.BodyLemmas.{body_of}
use Rattle.history_laws.proofs.CountLemmas.{one_if}
use Rattle.history_laws.proofs.GoingLemmas.{calls_running}
use Rattle.history_laws.proofs.LaterLemmas.{counted_at}
use Rattle.history_laws.proofs.LawLemmas.{happens}
use Rattle.history_laws.proofs.LeftLemmas.{counts}
use Rattle.history_laws.proofs.MovingLemmas.{IsNext, NextIn, is_next, return_open}
use Rattle.history_laws.proofs.ReachLemmas.{along, legal_take}
use Rattle.history_laws.proofs.ReactorLemmas.{stays_performed_by, stays_settled, stays_told}
use Rattle.history_laws.proofs.Sound.{Calls, IsDone, IsSound}
use Rattle.history_laws.proofs.SoundLemmas.{closed_round, spent_by}
use Rattle.history_laws.proofs.StepLemmas.{limited_by}
use Rattle.history_laws.proofs.StopLemmas.{HasClosed, closed, closings_after}
use Rattle.history_laws.proofs.TurnSoundLemmas.{inside_runs, sound_after}
use Rattle.history_rules.specs.Kinds.{is_act}

next_running : (acts : List ℕ) (class : Class) (p : ActPhase) (a : ℕ) → NextIn acts class p a → is_running p ≡ true
next_running acts class (phase.Running running progress) a next = refl
next_running acts class _ a next = absurd next

finished_running : (script : ScriptModel) (o : ℕ) (p : ActPhase) → has_finished script o p ≡ true → is_running p ≡ true
finished_running script o (phase.Running class progress) finished = refl
finished_running script o _ finished = absurd (cc)

made_open : (made : CallPhase) → is_made made ≡ true → is_open made ≡ true
made_open (call.Open called) is = refl
made_open _ is = absurd (cc)

counted_end : (e : Event) → one_if (is_round_end e) ≤ one_if (counts e)
counted_end event.Ended = omega arith
counted_end event.Stopped = omega arith
counted_end event.Polled = omega arith
counted_end _ = omega arith

few_ends : (events : List Event) → count_by is_round_end events ≤ count_by counts events
few_ends [] = omega arith
few_ends (e ∷ events) =
    omega (
      arith,
      sum_by-cons (λ e. cond (is_round_end e) 1 0) e events,
      sum_by-cons (λ e. cond (counts e) 1 0) e events,
      counted_end e,
      few_ends events,
    )

poll_pace : (p : Pace) → is_run p ≡ false → p ≡ pace.Poll
poll_pace pace.Poll is = refl
poll_pace pace.Run is = absurd (cc)

-- once a round is closed `open` has made all its calls
abbrev HasOpened : ScriptModel → ContextState → Type 0
HasOpened script c = 1 ≤ c.closings → c.opening.back ≡ length (opening_of script)

made_back : (place : Place) (c : ContextState) → (with_progress place step.Made c).opening.back ≡ c.opening.back
made_back None c = refl
made_back (Some at) c = refl

module _ (script : ScriptModel) (well : IsWellFormed script) (told : Bool) (s : State) (sound : IsSound script s) where
  abbrev c : ContextState
  c = s.context

  abbrev After : Event → State
  After e = after_event script told s e

  -- a call that is back is none of `open`
  called_back : (place : Place) (a : ℕ) (d : ContextState) → Calls script c place a → d.opening ≡ c.opening →
      c.opening.back ≡ length (opening_of script) →
      (with_progress place step.Back d).opening.back ≡ length (opening_of script)
  called_back None a d calls same all =
      let within = slice_get_within (body_of script None) c.opening.back a calls.0 in absurd (omega (arith, within, all))
  called_back (Some at) a d calls same all = ap (λ progress. progress.back) same ∙ all

  opened_after : (e : Event) → MayHappen script told s e → c.closings ≤ length script.rounds → HasOpened script c →
      HasOpened script (After e).context
  opened_after (event.Call a) may less opened = λ one.
      let same = (closings_after script well told s sound (event.Call a) may less).0 in
      made_back (parent_of script a) c ∙ opened (omega (arith, one, same))
  opened_after (event.Back a) may less opened = λ one.
      let same = (closings_after script well told s sound (event.Back a) may less).0 in
      let d : ContextState = with_call c a (returned c.events (call_at c a)) in
      let back = called_back (parent_of script a) a d (sound.calls a (return_open script well told s sound a may)) refl
      (opened (omega (arith, one, same))) in
      ap (λ progress. progress.back)
      (limited_by script (parent_of script a) a (is_act is_stop script a) (with_progress
      (parent_of script a) step.Back d)).opening
      ∙ back
  opened_after (event.Begin o code size) may less opened = λ one.
      let same = (closings_after script well told s sound (event.Begin o code size) may less).0 in
      ap (λ progress. progress.back) (spent_by (is_inline script o) (lane_of script o) (begun c o code)).opening
      ∙ opened (omega (arith, one, same))
  opened_after (event.Stop (Some a)) may less opened = opened
  opened_after (event.Stop None) may less opened = opened
  opened_after event.Ended may less opened = λ one. may.round.begun.opened
  opened_after event.Stopped may less opened = λ one. may.round.begun.opened
  opened_after event.Polled may less opened = λ one. may.round.begun.opened
  opened_after _ may less opened = opened

  -- once all rounds are closed nothing happens but that handlers are destroyed
  module _ (all : AllClosed script c) (opened : c.opening.back ≡ length (opening_of script)) (some : 1 ≤ c.events) where
    done : IsDone s
    done = sound.closed all

    never_runs : (n : ℕ) → is_running (phase_at c n) ≡ true → ⊥
    never_runs n runs = let wrong : true ≡ false = sym runs ∙ done.quiet n in cc wrong

    never_called : (a : ℕ) → is_open (call_at c a) ≡ true → ⊥
    never_called a is = by_place (parent_of script a) (sound.calls a is)
      where
        by_place : (place : Place) → Calls script c place a → ⊥
        by_place None calls =
            let within = slice_get_within (body_of script None) c.opening.back a calls.0 in omega (arith, within, opened)
        by_place (Some at) calls =
            never_runs at.0 (calls_running (body_of script (Some at)) at.1 (phase_at c at.0) a calls)

    never_next : (a : ℕ) (place : Place) → IsNext script c place a → ⊥
    never_next a None next =
        let within = slice_get_within (body_of script None) c.opening.made a next.0 in omega (arith, within, opened, next.1)
    never_next a (Some at) next = never_runs at.0 (next_running (body_of script (Some at)) at.1 (phase_at c at.0) a next)

    no_turn : (turn : Option ℕ) → turn ≡ None → IsSome turn → ⊥
    no_turn None is some = let wrong : false ≡ true = some in absurd (cc)
    no_turn (Some at) is some = absurd (cc)

    never_open : RoundIsOpen script c → ⊥
    never_open round = closed_round script well told s sound round all

    only_drops : (e : Event) → MayHappen script told s e → is_drop e ≡ true
    only_drops (event.Call a) may = absurd (never_next a (parent_of script a) (is_next script s.reactor.failed c a may))
    only_drops (event.Back a) may = absurd (never_called a (return_open script well told s sound a may))
    only_drops (event.Stop (Some a)) may = absurd (never_called a (made_open (call_at c a) may.made))
    only_drops (event.Stop None) may = absurd (never_open may)
    only_drops (event.Begin o code size) may = elim may [
      | inl outside ↦ absurd (never_open outside.round)
      | inr inside ↦
          let runs = inside_runs script well told s sound o inside.inside in
          absurd (never_runs runs.0.0 runs.2)
    ]
    only_drops (event.End o mark) may = absurd (never_runs o (finished_running script o (phase_at c o) may))
    only_drops (event.Take a) may = absurd (never_open may.turn.round)
    only_drops (event.Done o code size) may = absurd (no_turn c.turn done.turn (may.turn done.told))
    only_drops (event.Tick now) may = absurd (never_open may.idle.turn.round)
    only_drops event.Last may = absurd (never_open may.idle.turn.round)
    only_drops event.Fault may = elim may.when [
      | inl first ↦ absurd (omega (arith, first, some))
      | inr later ↦ absurd (never_open later.round)
    ]
    only_drops event.Ended may = absurd (never_open may.round)
    only_drops event.Stopped may = absurd (never_open may.round)
    only_drops event.Polled may = absurd (never_open may.round)
    only_drops event.Restart may = absurd (let less = may.begun.left in omega (arith, less, all))
    only_drops (event.Dropped o mark) may = refl

-- a reactor that has failed has shown it
abbrev HasShown : List Event → State → Type 0
HasShown before s = s.reactor.failed ≡ true → Contains before event.Fault

module _ (script : ScriptModel) (told : Bool) where
  more_shown : (before : List Event) (e : Event) (old new : Bool) → new ≡ old → (old ≡ true → Contains before event.Fault) →
      new ≡ true → Contains (before ++ e ∷ []) event.Fault
  more_shown before e old new same shown failed =
      Contains-append_left before (e ∷ []) event.Fault (shown (sym same ∙ failed))

  shown_next : (before : List Event) (s : State) (e : Event) → HasShown before s → MayHappen script told s e →
      HasShown (before ++ e ∷ []) (after_event script told s e)
  shown_next before s event.Fault shown may = λ failed. Contains-push before event.Fault
  shown_next before s (event.Take a) shown may =
      more_shown before (event.Take a) s.reactor.failed (after_event script told s (event.Take a)).reactor.failed
      ((stays_settled told (performed script a s.reactor)).failed
      ∙ (stays_performed_by script a (act_of script a) s.reactor).failed) shown
  shown_next before s (event.Done o code size) shown may =
      more_shown before (event.Done o code size) s.reactor.failed
      (after_event script told s (event.Done o code size)).reactor.failed (stays_told script o s.reactor).failed shown
  shown_next before s (event.Tick now) shown may =
      more_shown before (event.Tick now) s.reactor.failed (after_event script told s (event.Tick now)).reactor.failed
      (stays_settled told (at_time script told now s.reactor)).failed shown
  shown_next before s event.Last shown may =
      more_shown before event.Last s.reactor.failed (after_event script told s event.Last).reactor.failed
      (stays_settled told (at_last told s.reactor)).failed shown
  shown_next before s (event.Stop (Some a)) shown may =
      more_shown before (event.Stop (Some a)) s.reactor.failed s.reactor.failed refl shown
  shown_next before s (event.Stop None) shown may =
      more_shown before (event.Stop None) s.reactor.failed s.reactor.failed refl shown
  shown_next before s e shown may = more_shown before e s.reactor.failed s.reactor.failed refl shown

module _ (script : ScriptModel) (well : IsWellFormed script) (told : Bool) (events : List Event)
    (legal : IsLegalSoFar script told events) where
  abbrev at : ℕ → State
  at place = state_of script told (take place events)

  legal_at : (place : ℕ) → IsLegalSoFar script told (take place events)
  legal_at place = legal_take script told (first_state script told) events place legal

  sound_at : (place : ℕ) → IsSound script (at place)
  sound_at place = (counted_at script well told events legal place).shown.sound

  closed_at_place : (place : ℕ) → HasClosed script well told (take place events) (legal_at place) (take place events) (at place)
  closed_at_place place = closed script well told (take place events) (legal_at place)

  record IsOpened (s : State) : Type 0 where
    sound : IsSound script s
    few : s.context.closings ≤ length script.rounds
    opened : HasOpened script s.context

  opened_next : (before : List Event) (s : State) (e : Event) → IsOpened s → MayHappen script told s e →
      IsOpened (after_event script told s e)
  opened_next before s e is may = record {
    sound = sound_after script well told s is.sound e may;
    few = (closings_after script well told s is.sound e may is.few).1;
    opened = opened_after script well told s is.sound e may is.few is.opened;
  }

  opened_at : (place : ℕ) → IsOpened (at place)
  opened_at place =
      along script told (λ before s. IsOpened s) opened_next [] (first_state script told)
      (record { sound = sound_at 0; few = omega arith; opened = λ one. absurd (omega (arith, one)) }) (take place events)
      (legal_at place)

  last : (place : ℕ) (shown : Event) → StandsAt events place shown →
      closed_before events place ≡ length script.rounds → is_drop shown ≡ true
  last place shown stands closed =
      let counted = counted_at script well told events legal place in
      let all : (at place).context.closings ≡ length script.rounds = sym (closed_at_place place).1 ∙ closed in
      let rounds = well.some_round in
      let ends = few_ends (take place events) in
      only_drops script well told (at place) (sound_at place) all ((opened_at place).opened (omega (arith, all, rounds)))
      (omega (arith, counted.events, ends, closed, rounds)) shown (happens script well told events legal place shown stands)

  polled : (place : ℕ) (round : Round) → StandsAt events place event.Polled →
      slice_get script.rounds (closed_before events place) ≡ Some round → round.pace ≡ pace.Poll
  polled place round stands is =
      let may = happens script well told events legal place event.Polled stands in
      let this : slice_get script.rounds (at place).context.closings ≡ Some round =
      ap (slice_get script.rounds) (sym (closed_at_place place).1) ∙ is in
      poll_pace round.pace (sym (ap runs this) ∙ may.polls)

  shown_fault : (state_of script told events).reactor.failed ≡ true → Contains events event.Fault
  shown_fault =
      along script told HasShown (shown_next script told) [] (first_state script told)
      (λ failed. absurd (let wrong : false ≡ true = failed in cc)) events legal

  pub close_once : (AllClosed script (state_of script told events).context) ⊎
      ((state_of script told events).reactor.failed ≡ true) →
      RoundsCloseOnce script events
  close_once over = record {
    each = λ never. elim over [
      | inl all ↦ (closed script well told events legal).1 ∙ all
      | inr failed ↦ absurd (never (shown_fault failed))
    ];
    last = last;
    polled = polled;
  }
