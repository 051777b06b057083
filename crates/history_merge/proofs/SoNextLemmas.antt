-- What holds of the steps so far holds with the next step, where that is legal and expected.
use Rattle.std.proofs.Common.{◌≡◌, ℕ, ◌+◌, ◌<◌, ◌^◌, Bool, List, [], ◌∷◌, ◌++◌, length, refl, sym, ap, subst, ◌∙◌, arith, append-nil}
use Rattle.asio_types.specs.Faults.{most_faults}
use Rattle.asio_types.specs.declared.event.Event.{Event}
use Rattle.asio_types.specs.declared.event.Event.TheVariants as event
use Rattle.session_script.specs.Script.{ScriptModel}
use Rattle.session_script.specs.WellFormed.{IsWellFormed}
use Rattle.history_rules.specs.Legal.{IsLegalSoFar, after_event, state_from}
use Rattle.history_rules.specs.State.{ReactorHalf, State, first_state}
use Rattle.lane_clock.specs.declared.found.Change.{Change}
use Rattle.lane_clock.specs.declared.found.Found.{Found}
use Rattle.lane_clock.specs.History.{ClockEvent, steps_under}
use Rattle.lane_clock.proofs.CountLemmas.{few_drawn}
use Rattle.lane_clock.proofs.MomentLemmas.{Tail, tail_more}
use Rattle.lane_logs.specs.Labels.{Labelled, allots, shows, silent}
use Rattle.lane_logs.specs.Logs.{AreLogs, LogsView}
use Rattle.lane_logs.specs.Names.{SessionNames}
use Rattle.lane_logs.specs.ReactorTurns.{take_change}
use Rattle.history_merge.proofs.CalledLemmas.{AreExpected}
use Rattle.history_merge.proofs.ChangeLemmas.{HasChange, IsChangeOf, label_changes}
use Rattle.history_merge.proofs.CountedLemmas.{counted_in, counted_is, counted_most}
use Rattle.history_merge.proofs.DatedLemmas.{dated_next}
use Rattle.history_merge.proofs.DatesLemmas.{AreDated}
use Rattle.history_merge.proofs.FoundLemmas.{event_counted}
use Rattle.history_merge.proofs.GoingNextLemmas.{IsExpectedLabel, going_next}
use Rattle.history_merge.proofs.HistoryLemmas.{shown_by, shown_count}
use Rattle.history_merge.proofs.LabellingLemmas.{AreLabels}
use Rattle.history_merge.proofs.SoFarLemmas.{MayShow, legal_next, state_next, state_with}
use Rattle.history_merge.proofs.SoLemmas.{IsSo, IsSoundState, events_so, state_so}
use Rattle.history_merge.proofs.SoundStateLemmas.{sound_next}
use Rattle.history_merge.proofs.StagedLemmas.{is_labelled, label, labelled_to, off_others, seats, sound_to}
use Rattle.history_merge.proofs.StopLemmas.{Halts, halted_of, halts-append, halts_of, halts_with, no_halts}
use Rattle.history_merge.proofs.WordLemmas.{IsCountedBy, word_next}
use Rattle.history_merge.proofs.WorkLemmas.{change_by}

-- events that are legal and expected, and then more
pub expected-append : (script : ScriptModel) (told : Bool) (s : State) (xs ys : List Event) → AreExpected script told s xs →
    AreExpected script told (state_from script told s xs) ys → AreExpected script told s (xs ++ ys)
expected-append script told s [] ys first second = second
expected-append script told s (x ∷ xs) ys first second =
    (first.0, first.1, expected-append script told (after_event script told s x) xs ys first.2 second)

-- what a draw changes is what its event changes, where that holds of a take
change_is : (script : ScriptModel) (half : ReactorHalf) (shown : Event) (changes : Change) →
    IsChangeOf script half shown changes →
    ((a : ℕ) → shown ≡ event.Take a → changes ≡ take_change script half a) → changes ≡ change_by script half shown
change_is script half (event.Take a) changes is takes = takes a refl
change_is script half other changes is takes = is

module _ (names : SessionNames) (well : IsWellFormed names.script) (logs : LogsView) (labels : ℕ → List Labelled)
    (logged : AreLogs names logs) (are : AreLabels names logs labels) (e : ClockEvent) (es : List ClockEvent)
    (tail : Tail (e ∷ es) logged.closed.history) (so : IsSo names logs labels are es) where
  abbrev next_label : Labelled
  next_label = label names well logs labels logged are e es tail

  abbrev s : State
  s = state_so names logs labels are es

  abbrev events : List Event
  events = events_so names logs labels are es

  -- What is asked of the next step: what it shows may happen and is expected, a take changes what it has to, and stops are few
  pub record IsNextStep : Type 0 where
    pub may : MayShow names.script names.told (label names well logs labels logged are e es tail)
        (state_so names logs labels are es)
    pub expected : IsExpectedLabel (state_so names logs labels are es).context
        (label names well logs labels logged are e es tail)
    pub takes : (a : ℕ) (changes : Change) (found : Found) →
        label names well logs labels logged are e es tail ≡ shows (event.Take a) changes found →
        changes ≡ take_change names.script (state_so names logs labels are es).reactor a
    pub few : (halts_of (events_so names logs labels are (e ∷ es))).stops < 2 ^ 16

  so_far : Tail es logged.closed.history
  so_far = tail_more es e logged.closed.history tail

  -- so many events are far from the end of their count
  room : length events < most_faults
  room =
      let count = shown_count labels es (labelled_to names well logs labels logged are es so_far) in
      let drew =
      few_drawn names.script.guards (seats names well logs labels logged are) es logged.closed.few.0
      (sound_to names well logs labels logged are es so_far) in
      omega (arith, count, drew)

  count_is : s.context.events ≡ counted_in events
  count_is =
      counted_is names.script names.told (first_state names.script names.told) events (let less = room in omega (arith, less))
      ∙ (let same : 0 + counted_in events ≡ counted_in events = omega arith in same)

  few_events : s.context.events < most_faults
  few_events = let is = count_is in let less = room in let most = counted_most events in omega (arith, is, less, most)

  -- how the state and what was shown go on by a label
  abbrev Then : Labelled → State
  Then l = state_with names.script names.told l s

  abbrev With : Labelled → List Event
  With l = events ++ shown_by l

  record HoldsBy (l : Labelled) : Type 0 where
    state : IsSoundState names.script (Then l)
    dates : AreDated names.script (With l) (Then l).context
    expected : AreExpected names.script names.told s (shown_by l)

  by_label : (l : Labelled) → next_label ≡ l → MayShow names.script names.told l s → IsExpectedLabel s.context l → HoldsBy l
  by_label (silent step) is may expected = record {
    state = so.state;
    dates = subst (λ xs. AreDated names.script xs s.context) (sym (append-nil events)) so.dates;
    expected = tt;
  }
  by_label (allots act lane place) is may expected = record {
    state = so.state;
    dates = subst (λ xs. AreDated names.script xs s.context) (sym (append-nil events)) so.dates;
    expected = tt;
  }
  by_label (shows shown changes found) is may expected =
      let alive = (off_others names well logs labels logged are e es tail so shown changes found is).alive in
      record {
        state = sound_next names.script well names.told s few_events so.state shown may expected alive;
        dates =
            dated_next names.script well names.told events s so.state.order count_is so.dates so.state.kinds shown may expected
            alive;
        expected = (may, expected, tt);
      }

  module _ (step : IsNextStep) where
    legal : IsLegalSoFar names.script names.told (events_so names logs labels are (e ∷ es))
    legal = legal_next names.script names.told labels e es so.legal step.may

    counted_by : (shown : Event) (changes : Change) (found : Found) → next_label ≡ shows shown changes found →
        IsCountedBy names.script names.told s (halts_of events) shown changes
    counted_by shown changes found is =
        let has =
        subst (HasChange names.script) is
        (label_changes names logs labels are e.by (length (steps_under e.by es)) next_label
        (is_labelled names well logs labels logged are e es tail).there) in
        let halts : (halts_of (events_so names logs labels are (e ∷ es))).stops ≡ (halts_with shown (halts_of events)).stops =
        ap (λ (h : Halts). h.stops)
        (ap (λ l. halts_of (events ++ shown_by l)) is ∙ halts-append no_halts events (shown ∷ [])) in
        let few = step.few in
        event_counted names.script well names.told s so.state.order so.state.kinds so.state.untaken so.state.half.marks
        so.state.guards logged.closed.few.1 (halts_of events) shown changes
        (subst (λ l. MayShow names.script names.told l s) is step.may) (subst (IsExpectedLabel s.context) is step.expected)
        (change_is names.script s.reactor shown changes (has s.reactor)
        (λ a same. step.takes a changes found (is ∙ ap (λ shown. shows shown changes found) same)))
        (omega (arith, few, halts))

    -- all facts hold with the next step
    pub so_next : IsSo names logs labels are (e ∷ es)
    so_next =
        let next = state_next names.script names.told labels e es in
        let holds = by_label next_label refl step.may step.expected in
        record {
          legal = legal;
          expected =
              expected-append names.script names.told (first_state names.script names.told) events (shown_by next_label)
              so.expected holds.expected;
          state = subst (IsSoundState names.script) (sym next) holds.state;
          dates =
              subst (λ (t : State). AreDated names.script (events_so names logs labels are (e ∷ es)) t.context) (sym next)
              holds.dates;
          going = going_next names well logs labels logged are e es tail so step.may step.expected;
          counts =
              word_next names.script names.told labels (seats names well logs labels logged are) logged.closed.few.0
              logged.closed.few.1 e es (sound_to names well logs labels logged are es so_far)
              (labelled_to names well logs labels logged are es so_far) (is_labelled names well logs labels logged are e es tail)
              so.counts counted_by;
          few = step.few;
          halted = halted_of names.script names.told (events_so names logs labels are (e ∷ es)) legal;
        }
