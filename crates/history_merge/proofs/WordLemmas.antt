-- The clock word counts what was shown: how many events there were, the outstanding work, and the stops.
use Rattle.std.proofs.Common.{◌≡◌, ℕ, zero, suc, ◌+◌, ◌*◌, ◌^◌, ◌<◌, ◌≤◌, Bool, true, cond, List, [], ◌∷◌, ◌++◌, length, replicate, refl, sym, ap, subst, ◌∙◌, arith, length-append}
use Rattle.std.specs.Prelude.{count_by}
use Rattle.std.proofs.lemmas.List.{append-nil}
use Rattle.std.proofs.lemmas.List.Sums.{sum_by-cons}
use Rattle.asio_types.specs.declared.event.Event.{Event}
use Rattle.session_script.specs.Script.{ScriptModel}
use Rattle.history_rules.specs.Legal.{after_event, state_of}
use Rattle.history_rules.specs.Rounds.{is_act_outstanding, is_held, is_outstanding, outstanding_work}
use Rattle.history_rules.specs.Order.{was_taken}
use Rattle.history_rules.specs.State.{State, first_state}
use Rattle.history_rules.specs.declared.phase.ActState.{ActState}
use Rattle.lane_clock.specs.declared.found.Change.{Change}
use Rattle.lane_clock.specs.declared.found.Found.{Found}
use Rattle.lane_clock.specs.declared.step.ClockStep.{ClockStep}
use Rattle.lane_clock.specs.declared.step.ClockStep.TheVariants.{Draw, Load, Place, Put, Look, Join}
use Rattle.lane_clock.specs.Changes.{StayParted, down_of, parts_with, stop_of, up_of}
use Rattle.lane_clock.specs.ClockWord.{found_of}
use Rattle.lane_clock.specs.History.{ClockEvent, IsSoundHistory, word_after, word_with}
use Rattle.lane_clock.specs.Steps.{draw_count}
use Rattle.lane_clock.proofs.CountLemmas.{few_drawn}
use Rattle.lane_clock.proofs.HistoryLemmas.{draws_change_parts}
use Rattle.lane_logs.specs.Labels.{Labelled, allots, shows, silent, step_of}
use Rattle.execution_laws.proofs.CountingLemmas.{counted, counted-never, counted-range}
use Rattle.history_merge.proofs.AlikeLemmas.{never}
use Rattle.history_merge.proofs.HistoryLemmas.{AreLabelled, IsLabelled, IsPlain, label_of, shown_by, shown_count, shown_in}
use Rattle.history_merge.proofs.SoFarLemmas.{state_at, state_next, state_with}
use Rattle.history_merge.proofs.SoloLemmas.{all_fresh}
use Rattle.history_merge.proofs.StopLemmas.{Halts, halts-append, halts_of, halts_with, no_halts}

-- the parts of the word that events make
abbrev pub counts_by : ScriptModel → Bool → List Event → Found
counts_by script told events = record {
  clock = length events;
  work = outstanding_work (state_of script told events);
  stops = (halts_of events).stops;
}

abbrev pub counts_of : ScriptModel → Bool → (ℕ → List Labelled) → List ClockEvent → Found
counts_of script told labels es = counts_by script told (shown_in labels es)

-- what the draw of an event changes is what the event changes, and leaves each part within its bounds
pub record IsCountedBy (script : ScriptModel) (told : Bool) (s : State) (halts : Halts) (shown : Event) (changes : Change)
    : Type 0 where
  pub work : outstanding_work (after_event script told s shown) + down_of changes ≡ outstanding_work s + up_of changes
  pub stops : (halts_with shown halts).stops ≡ halts.stops + stop_of changes
  pub few_work : outstanding_work (after_event script told s shown) < 2 ^ 16
  pub few_stops : (halts_with shown halts).stops < 2 ^ 16

pub word_still : (step : ClockStep) (word : ℕ) → draw_count step ≡ 0 → word_with step word ≡ word
word_still (Draw shown changes found) word none = absurd (omega (arith, none))
word_still (Load found) word none = refl
word_still (Place lane place) word none = refl
word_still (Put lane place note) word none = refl
word_still (Look lane place held) word none = refl
word_still (Join counts) word none = refl

found_same : (f g : Found) → f.clock ≡ g.clock → f.work ≡ g.work → f.stops ≡ g.stops → f ≡ g
found_same f g clock work stops = λ i. record { clock = clock i; work = work i; stops = stops i }

-- the guards are the work at the start
held_all : (n : ℕ) → count_by is_held (replicate n true) ≡ n
held_all zero = refl
held_all (suc n) =
    let one = sum_by-cons (λ b. cond (is_held b) 1 0) true (replicate n true) in
    let rest = held_all n in omega (arith, one, rest)

first_work : (script : ScriptModel) (told : Bool) → outstanding_work (first_state script told) ≡ script.guards
first_work script told =
    let s : State = first_state script told in
    let count = counted-range (is_act_outstanding s) (length s.context.acts) in
    let none : counted (is_act_outstanding s) (length s.context.acts) ≡ 0 =
    counted-never (is_act_outstanding s) (length s.context.acts)
    (λ n out.
    never (is_act_outstanding s n)
    (ap (λ (act : ActState). is_outstanding act.phase (was_taken s.reactor n)) (all_fresh (length script.acts) n)) out) in
    let held = held_all script.guards in
    omega (arith, count, none, held)

module _ (script : ScriptModel) (told : Bool) (labels : ℕ → List Labelled) (seats : ℕ) (few : seats ≤ 2 ^ 15)
    (guards : script.guards < 2 ^ 15) where
  pub word_first : found_of (word_after script.guards []) ≡ counts_of script told labels []
  word_first =
      let work = first_work script told in
      found_same (found_of (script.guards * 2 ^ 32)) (counts_of script told labels []) (omega arith)
      (omega (arith, work, guards)) (omega (arith, guards))

  -- the word goes on as what was shown does
  pub word_next : (e : ClockEvent) (es : List ClockEvent) → IsSoundHistory script.guards seats es →
      AreLabelled labels es → IsLabelled labels es e →
      found_of (word_after script.guards es) ≡ counts_of script told labels es →
      ((shown : Event) (changes : Change) (found : Found) → label_of labels es e ≡ shows shown changes found →
      IsCountedBy script told (state_at script told labels es) (halts_of (shown_in labels es)) shown changes) →
      found_of (word_after script.guards (e ∷ es)) ≡ counts_of script told labels (e ∷ es)
  word_next e es sound all is before counts = by_label (label_of labels es e) refl
    where
      same : draw_count e.step ≡ 0 → shown_by (label_of labels es e) ≡ [] →
          found_of (word_after script.guards (e ∷ es)) ≡ counts_of script told labels (e ∷ es)
      same still none =
          ap found_of (word_still e.step (word_after script.guards es) still)
          ∙ (before
          ∙ ap (counts_by script told)
          (sym (ap (λ events. shown_in labels es ++ events) none ∙ append-nil (shown_in labels es))))

      quiet : (label : Labelled) → label_of labels es e ≡ label → draw_count (step_of label) ≡ 0 → draw_count e.step ≡ 0
      quiet label here none = ap draw_count (sym is.step) ∙ (ap (λ l. draw_count (step_of l)) here ∙ none)

      by_label : (label : Labelled) → label_of labels es e ≡ label →
          found_of (word_after script.guards (e ∷ es)) ≡ counts_of script told labels (e ∷ es)
      by_label (silent step) here =
          same (quiet (silent step) here (subst IsPlain here is.plain).0) (ap shown_by here)
      by_label (allots act lane place) here = same (quiet (allots act lane place) here refl) (ap shown_by here)
      by_label (shows shown changes found) here =
          let by : IsCountedBy script told (state_at script told labels es) (halts_of (shown_in labels es)) shown changes =
          counts shown changes found here in
          let step : e.step ≡ Draw shown changes found = sym is.step ∙ ap step_of here in
          let clock = ap (λ (f : Found). f.clock) before in
          let work = ap (λ (f : Found). f.work) before in
          let stops = ap (λ (f : Found). f.stops) before in
          let count = shown_count labels es all in
          let drew = few_drawn script.guards seats es few sound in
          let stay : StayParted changes (found_of (word_after script.guards es)) =
          record {
            clock = omega (arith, clock, count, drew);
            down = omega (arith, work, by.work);
            work = omega (arith, work, by.work, by.few_work);
            stops = omega (arith, stops, by.stops, by.few_stops);
          } in
          let next : found_of (word_after script.guards (e ∷ es))
          ≡ parts_with changes (found_of (word_after script.guards es)) =
          ap (λ step. found_of (word_with step (word_after script.guards es))) step
          ∙ draws_change_parts script.guards es e.by shown changes found guards stay in
          let longer : shown_in labels (e ∷ es) ≡ shown_in labels es ++ shown ∷ [] =
          ap (λ label. shown_in labels es ++ shown_by label) here in
          let after : state_at script told labels (e ∷ es)
          ≡ after_event script told (state_at script told labels es) shown =
          state_next script told labels e es
          ∙ ap (λ label. state_with script told label (state_at script told labels es)) here in
          let size : length (shown_in labels (e ∷ es)) ≡ length (shown_in labels es) + 1 =
          ap length longer ∙ length-append (shown_in labels es) (shown ∷ []) in
          let left : outstanding_work (state_at script told labels (e ∷ es)) + down_of changes
          ≡ outstanding_work (state_at script told labels es) + up_of changes =
          ap (λ s. outstanding_work s + down_of changes) after ∙ by.work in
          let halts : (halts_of (shown_in labels (e ∷ es))).stops ≡ (halts_of (shown_in labels es)).stops + stop_of changes =
          ap (λ (h : Halts). h.stops) (ap halts_of longer ∙ halts-append no_halts (shown_in labels es) (shown ∷ []))
          ∙ by.stops in
          next
          ∙ found_same (parts_with changes (found_of (word_after script.guards es))) (counts_of script told labels (e ∷ es))
          (omega (arith, clock, size)) (omega (arith, work, left)) (omega (arith, stops, halts))
