-- The one history of all steps, in which each step has its label: what its draws show, and that the positions count it.
use Rattle.std.proofs.Common.{◌≡◌, ℕ, zero, suc, ◌^◌, ◌≤◌, List, [], ◌∷◌, ◌++◌, inl, inr, length, refl, sym, ap, subst, ◌∙◌, arith, length-append}
use Rattle.std.specs.List.{slice_index_or}
use mathlib.Core.Option.{some, some-injective, some-ne-none}
use lib.ListN.{get_elem?}
use Rattle.asio_types.specs.declared.event.Event.{Event}
use Rattle.lane_clock.specs.declared.found.Change.{Change}
use Rattle.lane_clock.specs.declared.found.Found.{Found}
use Rattle.lane_clock.specs.declared.step.ClockStep.TheVariants.{Draw}
use Rattle.lane_clock.specs.History.{ClockEvent, IsSoundHistory, Fits, drawn, steps_under}
use Rattle.lane_clock.specs.Steps.{draw_count, place_count}
use Rattle.lane_clock.proofs.ClockLemmas.{found_clock}
use Rattle.lane_clock.proofs.KnownLemmas.{under_same}
use Rattle.lane_clock.proofs.MomentLemmas.{Tail, at_start, sound_tail, tail_more, under_grows}
use Rattle.lane_logs.specs.Labels.{Labelled, allots, entries_in, events_in, shows, silent, step_of, steps_in}
use Rattle.history_merge.proofs.PartLemmas.{at_seam, label_of_step}

-- a step by itself neither draws nor gets a place
abbrev pub IsPlain : Labelled → Type 0
IsPlain (silent step) = (draw_count step ≡ 0) × (place_count step ≡ 0)
IsPlain (shows shown changes found) = Unit {0}
IsPlain (allots act lane place) = Unit {0}

-- what a label shows
abbrev pub shown_by : Labelled → List Event
shown_by (silent step) = []
shown_by (shows shown changes found) = shown ∷ []
shown_by (allots act lane place) = []

pub index_is : {A : Type 0} → (xs : List A) (i : ℕ) (x d : A) → get_elem? xs i ≡ some x → slice_index_or xs i d ≡ x
index_is [] i x d at = absurd (some-ne-none x (sym at))
index_is (y ∷ xs) zero x d at = some-injective y x at
index_is (y ∷ xs) (suc i) x d at = index_is xs i x d at

pub entries_shown : (label : Labelled) → events_in (entries_in (label ∷ [])) ≡ shown_by label
entries_shown (silent step) = refl
entries_shown (shows shown changes found) = refl
entries_shown (allots act lane place) = refl

drawn_shown : (label : Labelled) → IsPlain label → draw_count (step_of label) ≡ length (shown_by label)
drawn_shown (silent step) plain = plain.0
drawn_shown (shows shown changes found) plain = refl
drawn_shown (allots act lane place) plain = refl

-- the labels of the steps under each number
module _ (labels : ℕ → List Labelled) where
  -- the label of a step that is made after these
  abbrev pub label_of : List ClockEvent → ClockEvent → Labelled
  label_of es e = slice_index_or (labels e.by) (length (steps_under e.by es)) (silent e.step)

  -- the events that the draws of a history show, the oldest first
  abbrev pub shown_in : List ClockEvent → List Event
  shown_in [] = []
  shown_in (e ∷ es) = shown_in es ++ shown_by (label_of es e)

  -- the step has its label
  pub record IsLabelled (es : List ClockEvent) (e : ClockEvent) : Type 0 where
    pub there : get_elem? (labels e.by) (length (steps_under e.by es)) ≡ some (label_of es e)
    pub step : step_of (label_of es e) ≡ e.step
    pub plain : IsPlain (label_of es e)

  abbrev pub AreLabelled : List ClockEvent → Type 0
  AreLabelled [] = Unit {0}
  AreLabelled (e ∷ es) = AreLabelled es × IsLabelled es e

  -- each step of a history has its label, where the labels of each number make its steps
  module _ (history : List ClockEvent) (made : (n : ℕ) → steps_in (labels n) ≡ steps_under n history)
      (plain : (n i : ℕ) (label : Labelled) → get_elem? (labels n) i ≡ some label → IsPlain label) where
    is_labelled : (e : ClockEvent) (es : List ClockEvent) → Tail (e ∷ es) history → IsLabelled es e
    is_labelled e es tail =
        let last : get_elem? (steps_under e.by (e ∷ es)) (length (steps_under e.by es)) ≡ some e.step =
        subst (λ xs. get_elem? xs (length (steps_under e.by es)) ≡ some e.step) (sym (under_same es e.by e.step))
        (at_seam (steps_under e.by es) e.step []) in
        let now : get_elem? (steps_in (labels e.by)) (length (steps_under e.by es)) ≡ some e.step =
        subst (λ xs. get_elem? xs (length (steps_under e.by es)) ≡ some e.step) (sym (made e.by))
        (at_start (steps_under e.by (e ∷ es)) (steps_under e.by history) (length (steps_under e.by es)) e.step
        (under_grows e.by (e ∷ es) history tail) last) in
        let found = label_of_step (labels e.by) (length (steps_under e.by es)) e.step now in
        let is : label_of es e ≡ found.0 =
        index_is (labels e.by) (length (steps_under e.by es)) found.0 (silent e.step) found.1 in
        record {
          there = found.1 ∙ ap some (sym is);
          step = ap step_of is ∙ found.2;
          plain =
              subst IsPlain (sym is) (plain e.by (length (steps_under e.by es)) found.0 found.1);
        }

    pub are_labelled : (es : List ClockEvent) → Tail es history → AreLabelled es
    are_labelled [] tail = tt
    are_labelled (e ∷ es) tail = (are_labelled es (tail_more es e history tail), is_labelled e es tail)

  -- positions count what was shown
  pub shown_count : (es : List ClockEvent) → AreLabelled es → length (shown_in es) ≡ drawn es
  shown_count [] all = refl
  shown_count (e ∷ es) all =
      let before = shown_count es all.0 in
      let now : draw_count e.step ≡ length (shown_by (label_of es e)) =
      ap draw_count (sym all.1.step) ∙ drawn_shown (label_of es e) all.1.plain in
      length-append (shown_in es) (shown_by (label_of es e)) ∙ omega (arith, before, now)

  -- what was shown stays, at its place
  shown_stays : (a es : List ClockEvent) → Tail a es → (i : ℕ) (x : Event) → get_elem? (shown_in a) i ≡ some x →
      get_elem? (shown_in es) i ≡ some x
  shown_stays a [] tail i x at = subst (λ xs. get_elem? (shown_in xs) i ≡ some x) tail at
  shown_stays a (e ∷ es) (inl same) i x at = subst (λ xs. get_elem? (shown_in xs) i ≡ some x) same at
  shown_stays a (e ∷ es) (inr tail) i x at =
      later (shown_in es) (shown_by (label_of es e)) i x (shown_stays a es tail i x at)
    where
      later : {A : Type 0} → (xs ys : List A) (i : ℕ) (x : A) → get_elem? xs i ≡ some x → get_elem? (xs ++ ys) i ≡ some x
      later [] ys i x at = absurd (some-ne-none x (sym at))
      later (y ∷ xs) ys zero x at = at
      later (y ∷ xs) ys (suc i) x at = later xs ys i x at

  -- an event stands at the position that its draw found
  module _ (guards seats : ℕ) (few : seats ≤ 2 ^ 15) where
    pub shown_at : (es : List ClockEvent) → IsSoundHistory guards seats es → AreLabelled es →
        (e : ClockEvent) (older : List ClockEvent) → Tail (e ∷ older) es →
        (shown : Event) (changes : Change) (found : Found) → label_of older e ≡ shows shown changes found →
        get_elem? (shown_in es) found.clock ≡ some shown
    shown_at es sound all e older tail shown changes found is =
        let before = sound_tail guards seats (e ∷ older) es tail sound in
        let labelled = labelled_tail es (e ∷ older) tail all in
        let step : e.step ≡ Draw shown changes found = sym labelled.1.step ∙ ap step_of is in
        let fits : Fits guards older e.by (Draw shown changes found) = subst (Fits guards older e.by) step before.2 in
        let clock : found.clock ≡ length (shown_in older) =
        found_clock guards seats older few before.0 found fits.0 ∙ sym (shown_count older labelled.0) in
        shown_stays (e ∷ older) es tail found.clock shown
        (subst (λ xs. get_elem? (shown_in older ++ xs) found.clock ≡ some shown) (sym (ap shown_by is))
        (subst (λ i. get_elem? (shown_in older ++ shown ∷ []) i ≡ some shown) (sym clock) (at_seam (shown_in older) shown [])))
      where
        labelled_tail : (es a : List ClockEvent) → Tail a es → AreLabelled es → AreLabelled a
        labelled_tail [] a tail all = subst AreLabelled (sym tail) tt
        labelled_tail (e ∷ es) a (inl same) all = subst AreLabelled (sym same) all
        labelled_tail (e ∷ es) a (inr tail) all = labelled_tail es a tail all.0
