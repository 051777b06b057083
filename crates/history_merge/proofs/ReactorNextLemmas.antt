-- All that is asked of a step holds of each step of the reactor's lane: what it shows may happen, a take changes what it has to,
-- and what completes was requested.
use Rattle.std.proofs.Common.{◌≡◌, ℕ, Bool, true, false, cond, List, ◌∷◌, refl, ap, ◌∙◌, arith}
use Rattle.std.specs.Prelude.{◌==◌}
use Rattle.std.proofs.lemmas.Bool.{and_parts, eq-eqb}
use Rattle.asio_types.specs.declared.code.Code.{Code}
use Rattle.asio_types.specs.declared.event.Event.{Event}
use Rattle.asio_types.specs.declared.event.Event.TheVariants as event
use Rattle.session_script.specs.Script.{ScriptModel}
use Rattle.session_script.specs.WellFormed.{IsWellFormed}
use Rattle.history_rules.specs.Legal.{MayHappen}
use Rattle.history_rules.specs.Order.{was_taken}
use Rattle.history_rules.specs.Requests.{MayTell}
use Rattle.history_rules.specs.State.{State, phase_at}
use Rattle.history_rules.specs.declared.phase.ActPhase.{ActPhase}
use Rattle.history_rules.specs.declared.phase.ActPhase.TheVariants as phase
use Rattle.execution_laws.specs.Standing.{IsStanding}
use Rattle.execution_laws.specs.Work.{is_pending, is_requested}
use Rattle.reactor_turns.proofs.StandingLemmas.{stands-done}
use Rattle.reactor_turns.proofs.SummingLemmas.{one_if}
use Rattle.lane_clock.specs.History.{ClockEvent}
use Rattle.lane_clock.proofs.MomentLemmas.{Tail, tail_refl}
use Rattle.lane_map.specs.LaneNumbers.{reactor_lane}
use Rattle.lane_logs.specs.Labels.{Labelled, allots, shows, silent}
use Rattle.lane_logs.specs.Logs.{AreLogs, LogsView}
use Rattle.lane_logs.specs.Names.{SessionNames}
use Rattle.history_merge.proofs.AskLemmas.{IsNoDrop}
use Rattle.history_merge.proofs.GoingNextLemmas.{IsExpectedLabel}
use Rattle.history_merge.proofs.HistoryLemmas.{label_of}
use Rattle.history_merge.proofs.LabellingLemmas.{AreLabels}
use Rattle.history_merge.proofs.OpenerNextLemmas.{few_next}
use Rattle.history_merge.proofs.OrderlyLemmas.{IsExpected}
use Rattle.history_merge.proofs.SoFarLemmas.{MayShow}
use Rattle.history_merge.proofs.SoLemmas.{IsSo, state_so}
use Rattle.history_merge.proofs.SoNextLemmas.{IsNextStep}
use Rattle.history_merge.proofs.StagedLemmas.{off_others}
use Rattle.history_merge.proofs.TurnLemmas.{turn_change, turn_legal}

requested_is : (of : ActPhase) → is_requested of ≡ true → of ≡ phase.Requested
requested_is phase.Requested is = refl
requested_is other is = absurd (cc)

-- what completes was requested, where the reactor has each pending operation to complete once
pub done_requested : (script : ScriptModel) (told : Bool) (s : State) → IsStanding s → (o : ℕ) (given : Code) (size : ℕ) →
    MayTell script told s.reactor o given size → phase_at s.context o ≡ phase.Requested
done_requested script told s standing o given size may = by_pending (is_pending s o) refl
  where
    by_pending : (b : Bool) → is_pending s o ≡ b → phase_at s.context o ≡ phase.Requested
    by_pending true is =
        requested_is (phase_at s.context o)
        (and_parts (is_requested (phase_at s.context o)) (was_taken s.reactor o) is).0
    by_pending false isnt =
        let once = stands-done o script told s.reactor o given size may in
        let none = standing o ∙ ap (λ b. cond b 1 0) isnt in
        let one : one_if (o == o) ≡ 1 = ap one_if (eq-eqb o o refl) in
        absurd (omega (arith, once, none, one))

module _ (names : SessionNames) (well : IsWellFormed names.script) (logs : LogsView) (labels : ℕ → List Labelled)
    (logged : AreLogs names logs) (are : AreLabels names logs labels) (e : ClockEvent) (es : List ClockEvent)
    (tail : Tail (e ∷ es) logged.closed.history) (so : (a : List ClockEvent) → Tail a es → IsSo names logs labels are a)
    (reactor : e.by ≡ reactor_lane names.script) where
  abbrev script : ScriptModel
  script = names.script

  abbrev next_label : Labelled
  next_label = label_of labels es e

  abbrev s : State
  s = state_so names logs labels are es

  abbrev now : IsSo names logs labels are es
  now = so es (tail_refl es)

  may_by : (label : Labelled) → next_label ≡ label → MayShow script names.told label s
  may_by (silent step) is = tt
  may_by (allots act lane place) is = tt
  may_by (shows shown changes found) is =
      turn_legal names well logs labels logged are e es tail reactor so shown changes found is

  expected_by : (shown : Event) → MayHappen script names.told s shown → IsNoDrop shown → IsExpected s.context shown
  expected_by (event.Done o given size) may alive =
      done_requested script names.told s (now.state.balanced may.working).standing o given size may.next
  expected_by (event.Dropped o mark) may alive = absurd alive
  expected_by other may alive = tt

  expects : (label : Labelled) → next_label ≡ label → IsExpectedLabel s.context label
  expects (silent step) is = tt
  expects (allots act lane place) is = tt
  expects (shows shown changes found) is =
      expected_by shown (turn_legal names well logs labels logged are e es tail reactor so shown changes found is)
      (off_others names well logs labels logged are e es tail now shown changes found is).alive

  -- so the step may be made
  pub reactor_next : IsNextStep names well logs labels logged are e es tail (so es (tail_refl es))
  reactor_next = record {
    may = may_by next_label refl;
    expected = expects next_label refl;
    takes = λ a changes found is.
        turn_change names well logs labels logged are e es tail reactor so (event.Take a) changes found is a refl;
    few = few_next names well logs labels logged are e es tail now (may_by next_label refl) (expects next_label refl);
  }
