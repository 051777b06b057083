-- From a step of a lane's part on, only the part's own labels, executions of other lanes and stops from outside come.
use Rattle.std.proofs.Common.{◌≡◌, ℕ, ◌+◌, ◌<◌, ◌≤◌, Bool, List, [], ◌∷◌, ◌++◌, inl, inr, length, take, refl, sym, ap, subst, ◌∙◌, arith}
use Rattle.std.proofs.lemmas.Bool.{cases_eq}
use Rattle.std.proofs.lemmas.List.{length-map}
use mathlib.Core.Option.{some}
use lib.ListN.{get_elem?}
use Rattle.asio_types.specs.declared.event.Event.{Event}
use Rattle.session_script.specs.Script.{ScriptModel}
use Rattle.history_rules.specs.Legal.{IsLegalFrom, IsLegalSoFar, MayHappen, after_event, state_from}
use Rattle.history_rules.specs.State.{State, first_reactor, first_state}
use Rattle.lane_clock.specs.declared.found.Change.{Change}
use Rattle.lane_clock.specs.declared.found.Found.{Found}
use Rattle.lane_clock.specs.History.{ClockEvent, steps_under}
use Rattle.lane_clock.proofs.MomentLemmas.{Tail, tail_more, tail_trans, under_length}
use Rattle.lane_map.specs.LaneNumbers.{reactor_lane}
use Rattle.lane_logs.specs.Half.{half_from, half_of}
use Rattle.lane_logs.specs.Labels.{Labelled, allots, entries_in, shows, silent, step_of}
use Rattle.lane_logs.specs.LaneLog.{half_after}
use Rattle.lane_logs.specs.Logs.{AreLogs, LogsView}
use Rattle.lane_logs.specs.Names.{SessionNames}
use Rattle.lane_logs.specs.Parts.{Part, labels_in}
use Rattle.lane_logs.specs.SeatNumbers.{lane_count, opener_seat}
use Rattle.history_merge.proofs.BetweenLemmas.{kept_from, made_within, none_drawn, own_before}
use Rattle.history_merge.proofs.GoingLemmas.{IsDrawing}
use Rattle.history_merge.proofs.HalfLemmas.{half_is}
use Rattle.history_merge.proofs.HistoryLemmas.{AreLabelled, IsLabelled, are_labelled, label_of, shown_by, shown_in}
use Rattle.history_merge.proofs.LabellingLemmas.{AreLabels, plain_label}
use Rattle.history_merge.proofs.PartLemmas.{IsMadeAt, all_made, lane_made}
use Rattle.history_merge.proofs.RestingLemmas.{half-append}
use Rattle.history_merge.proofs.SoFarLemmas.{made_so_far, state_at, state_next, state_with}
use Rattle.history_merge.proofs.WhoseLemmas.{IsOthers, ShowsOthers, others_label}

-- what is legal is so from its first part on
module _ (script : ScriptModel) (told : Bool) where
  pub legal_first : (s : State) (xs ys : List Event) → IsLegalFrom script told s (xs ++ ys) → IsLegalFrom script told s xs
  legal_first s [] ys legal = tt
  legal_first s (x ∷ xs) ys legal = (legal.0, legal_first (after_event script told s x) xs ys legal.1)

  pub legal_last : (s : State) (xs ys : List Event) → IsLegalFrom script told s (xs ++ ys) →
      IsLegalFrom script told (state_from script told s xs) ys
  legal_last s [] ys legal = legal
  legal_last s (x ∷ xs) ys legal = legal_last (after_event script told s x) xs ys legal.1

  pub legal_tail : (labels : ℕ → List Labelled) (a es : List ClockEvent) → Tail a es →
      IsLegalSoFar script told (shown_in labels es) → IsLegalSoFar script told (shown_in labels a)
  legal_tail labels a [] tail legal =
      subst (λ es. IsLegalSoFar script told (shown_in labels es)) (sym tail) legal
  legal_tail labels a (e ∷ es) (inl is) legal =
      subst (λ es. IsLegalSoFar script told (shown_in labels es)) (sym is) legal
  legal_tail labels a (e ∷ es) (inr tail) legal =
      legal_tail labels a es tail
      (legal_first (first_state script told) (shown_in labels es) (shown_by (label_of labels es e)) legal)

-- each step of the history has its label
pub labelled_at : (names : SessionNames) (logs : LogsView) (labels : ℕ → List Labelled) (logged : AreLogs names logs) →
    AreLabels names logs labels → (a : List ClockEvent) → Tail a logged.closed.history → AreLabelled labels a
labelled_at names logs labels logged are a tail =
    are_labelled labels logged.closed.history (λ n. are.steps n ∙ logged.closed.all n)
    (plain_label names logs labels are) a tail

-- in the whole history each number has made all its steps
pub made_all : (names : SessionNames) (logs : LogsView) (labels : ℕ → List Labelled) (logged : AreLogs names logs) →
    AreLabels names logs labels → (n : ℕ) → length (steps_under n logged.closed.history) ≡ length (labels n)
made_all names logs labels logged are n =
    ap length (sym (are.steps n ∙ logged.closed.all n)) ∙ length-map (labels n) step_of

module _ (names : SessionNames) (logs : LogsView) (labels : ℕ → List Labelled) (logged : AreLogs names logs)
    (are : AreLabels names logs labels) (e : ClockEvent) (es : List ClockEvent)
    (tail : Tail (e ∷ es) logged.closed.history) (within : e.by < lane_count names.script)
    (at : IsMadeAt Part (labels_in names.script e.by) (are.lanes e.by within).parts (length (steps_under e.by es))
    (label_of labels es e))
    (draws : IsDrawing names (logs.lists (opener_seat names.script)) e.by at.earlier (labels_in names.script e.by at.part))
    (reactor : e.by ≡ reactor_lane names.script)
  where
    -- in a part of the reactor's lane its half is what the part has shown so far makes of that before it
    pub half_within : (a : List ClockEvent) → Tail a logged.closed.history → (j : ℕ) →
        length (steps_under e.by a) ≡ length (all_made Part (labels_in names.script e.by) at.earlier) + j →
        j ≤ length at.before →
        (state_at names.script names.told labels a).reactor
        ≡ half_from names.script names.told
        (half_after names (logs.lists (opener_seat names.script)) e.by at.earlier) (entries_in (take j at.before))
    half_within a behind j is less =
        let xs : List Labelled = all_made Part (labels_in names.script e.by) at.earlier in
        half_is names logs labels are a (labelled_at names logs labels logged are a behind)
        ∙ (ap (λ n. half_of names.script names.told (entries_in (made_so_far labels a n))) (sym reactor)
        ∙ (ap (λ made. half_of names.script names.told (entries_in made))
        (made_within names logs labels logged are e es tail within at draws a j is less)
        ∙ (half-append names.script names.told (first_reactor names.script names.told) xs (take j at.before)
        ∙ ap (λ made. half_from names.script names.told (half_of names.script names.told (entries_in made))
        (entries_in (take j at.before)))
        (sym (lane_made names.script e.by at.earlier)))))

module _ (names : SessionNames) (logs : LogsView) (labels : ℕ → List Labelled) (logged : AreLogs names logs)
    (are : AreLabels names logs labels) (e : ClockEvent) (es : List ClockEvent)
    (tail : Tail (e ∷ es) logged.closed.history) (within : e.by < lane_count names.script)
    (at : IsMadeAt Part (labels_in names.script e.by) (are.lanes e.by within).parts (length (steps_under e.by es))
    (label_of labels es e))
    (draws : IsDrawing names (logs.lists (opener_seat names.script)) e.by at.earlier (labels_in names.script e.by at.part))
    (legal : IsLegalSoFar names.script names.told (shown_in labels es)) (reactor : e.by ≡ reactor_lane names.script)
  where
    abbrev state : List ClockEvent → State
    state a = state_at names.script names.told labels a

    -- what was shown was legal where it came
    shown_may : (f : ClockEvent) (older : List ClockEvent) → Tail (f ∷ older) es →
        (shown : Event) (changes : Change) (found : Found) → label_of labels older f ≡ shows shown changes found →
        MayHappen names.script names.told (state older) shown
    shown_may f older made shown changes found is =
        (legal_last names.script names.told (first_state names.script names.told) (shown_in labels older) (shown ∷ [])
        (subst (λ label. IsLegalSoFar names.script names.told (shown_in labels older ++ shown_by label)) is
        (legal_tail names.script names.told labels (f ∷ older) es made legal))).0

    module _ (P : State → Type 0)
        (own : (j : ℕ) (shown : Event) (changes : Change) (found : Found) →
        get_elem? at.before j ≡ some (shows shown changes found) → (s : State) → P s →
        P (after_event names.script names.told s shown))
        (others : (s : State) (shown : Event) → MayHappen names.script names.told s shown → IsOthers shown → P s →
        P (after_event names.script names.told s shown)) where
      module _ (f : ClockEvent) (older : List ClockEvent) (made : Tail (f ∷ older) es)
          (since : length (all_made Part (labels_in names.script e.by) at.earlier) ≤ length (steps_under e.by older))
          (labelled : IsLabelled labels older f) (before : P (state older)) where
        by_number : (shown : Event) (changes : Change) (found : Found) → label_of labels older f ≡ shows shown changes found →
            P (after_event names.script names.told (state older) shown)
        by_number shown changes found is = elim (cases_eq f.by e.by) [
          | inl same ↦
              let here = own_before names logs labels logged are e es tail within at draws f older made same since labelled in
              own here.0 shown changes found (here.1 ∙ ap some is) (state older) before
          | inr other ↦ elim (cases_eq f.by (opener_seat names.script)) [
            | inl opens ↦
                absurd (none_drawn names logs labels logged are e es tail within at draws f older made since opens shown changes found
                (sym labelled.step ∙ ap step_of is))
            | inr away ↦
                others (state older) shown (shown_may f older made shown changes found is)
                (subst ShowsOthers is
                (others_label names logs labels are f.by (length (steps_under f.by older)) (label_of labels older f)
                labelled.there (λ reacts. other (reacts ∙ sym reactor)) away)) before
          ]
        ]

        by_label : (label : Labelled) → label_of labels older f ≡ label → P (state_with names.script names.told label (state older))
        by_label (silent step) is = before
        by_label (shows shown changes found) is = by_number shown changes found is
        by_label (allots act lane place) is = before

        one_on : P (state (f ∷ older))
        one_on =
            subst P (sym (state_next names.script names.told labels f older)) (by_label (label_of labels older f) refl)

      -- what these keep holds still
      pub kept_since : (a : List ClockEvent) → Tail a es →
          length (all_made Part (labels_in names.script e.by) at.earlier) ≤ length (steps_under e.by a) →
          P (state a) → P (state es)
      kept_since a since least first =
          kept_from (λ es. P (state es)) a es since first
          (λ f older made behind before.
          let more = under_length e.by a older behind in
          one_on f older made (omega (arith, least, more))
          (labelled_at names logs labels logged are (f ∷ older)
          (tail_trans (f ∷ older) es logged.closed.history made (tail_more es e logged.closed.history tail))).1 before)
