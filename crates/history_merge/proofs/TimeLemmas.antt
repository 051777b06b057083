-- When a label was made: what was shown, and which places were drawn, before it.
use Rattle.std.proofs.Common.{◌≡◌, ℕ, zero, suc, ◌+◌, ◌-◌, ◌<◌, ◌≤◌, Bool, true, false, cond, List, [], ◌∷◌, ◌++◌, inl, inr, length, take, refl, sym, ap, subst, ◌∙◌, arith, length-append}
use Rattle.std.specs.Prelude.{◌==◌}
use Rattle.std.proofs.lemmas.Bool.{cases_lt, eq-eqb}
use mathlib.Core.Option.{some, some-injective, some-ne-none}
use lib.ListN.{get_elem?}
use Rattle.asio_types.specs.declared.event.Event.{Event}
use Rattle.lane_clock.specs.declared.found.Change.{Change}
use Rattle.lane_clock.specs.declared.found.Found.{Found}
use Rattle.lane_clock.specs.declared.step.ClockStep.{ClockStep}
use Rattle.lane_clock.specs.declared.step.ClockStep.TheVariants.{Draw, Load, Place, Put, Look, Join}
use Rattle.lane_clock.specs.History.{ClockEvent, Fits, IsSoundHistory, places_after, places_with, steps_under}
use Rattle.lane_clock.proofs.KnownLemmas.{event, under_same}
use Rattle.lane_clock.proofs.MomentLemmas.{Tail, moment_of, sound_tail, tail_length, tail_more, tail_same, tails_order, under_length}
use Rattle.lane_logs.specs.Labels.{Labelled, allots, shows, silent, step_of}
use Rattle.history_merge.proofs.CountedLemmas.{counted_in, is_counted}
use Rattle.history_merge.proofs.DatesLemmas.{IsShownAt, shown_among, shown_now}
use Rattle.history_merge.proofs.HistoryLemmas.{AreLabelled, label_of, shown_by, shown_in}
use Rattle.history_merge.proofs.PartLemmas.{at_left, at_right}
use Rattle.reactor_turns.proofs.SummingLemmas.{one_if}
use Rattle.history_merge.proofs.TimesLemmas.{times-append}

-- the label of the newest step
abbrev newest : (ℕ → List Labelled) → Labelled → List ClockEvent → Labelled
newest labels other [] = other
newest labels other (e ∷ older) = label_of labels older e

module _ (labels : ℕ → List Labelled) where
  -- a label was made by a number, among these steps
  pub record IsMade (es : List ClockEvent) (n : ℕ) (label : Labelled) : Type 0 where
    pub e : ClockEvent
    pub older : List ClockEvent
    pub tail : Tail (e ∷ older) es
    pub by : e.by ≡ n
    pub is : label_of labels older e ≡ label

  -- its index among the number's labels
  abbrev pub index_in : {es : List ClockEvent} {n : ℕ} {label : Labelled} → IsMade es n label → ℕ
  index_in {es} {n} {label} made = length (steps_under n made.older)

  -- an event was shown by a number
  pub record IsShownBy (es : List ClockEvent) (shown : Event) (count : ℕ) : Type 0 where
    pub changes : Change
    pub found : Found
    pub number : ℕ
    pub made : IsMade es number (shows shown changes found)
    pub counts : counted_in (shown_in labels made.older) ≡ count

  abbrev later_made : (e : ClockEvent) (es : List ClockEvent) (n : ℕ) (label : Labelled) → IsMade es n label → IsMade (e ∷ es) n label
  later_made e es n label made =
      record { e = made.e; older = made.older; tail = inr made.tail; by = made.by; is = made.is }

  pub labelled_tail : (es a : List ClockEvent) → Tail a es → AreLabelled labels es → AreLabelled labels a
  labelled_tail [] a tail all = subst (AreLabelled labels) (sym tail) tt
  labelled_tail (e ∷ es) a (inl same) all = subst (AreLabelled labels) (sym same) all
  labelled_tail (e ∷ es) a (inr tail) all = labelled_tail es a tail all.0

  -- a label of a number that it has come to was made
  pub made_of : (es : List ClockEvent) → AreLabelled labels es → (n i : ℕ) (label : Labelled) →
      get_elem? (labels n) i ≡ some label → i < length (steps_under n es) →
      (made : IsMade es n label) × (length (steps_under n made.older) ≡ i)
  made_of es all n i label at within =
      let step = there_at (steps_under n es) i within in
      let moment = moment_of es n i step.0 step.1 in
      let tail = tail_more moment.older (event n step.0) es moment.tail in
      let labelled = labelled_tail es (event n step.0 ∷ moment.older) moment.tail all in
      let here : get_elem? (labels n) i ≡ some (label_of labels moment.older (event n step.0)) =
      subst (λ j. get_elem? (labels n) j ≡ some (label_of labels moment.older (event n step.0))) (sym moment.index)
      labelled.1.there in (
        record {
          e = event n step.0;
          older = moment.older;
          tail = moment.tail;
          by = refl;
          is = some-injective (label_of labels moment.older (event n step.0)) label (sym here ∙ at);
        },
        sym moment.index,
      )
    where
      there_at : (xs : List ClockStep) (i : ℕ) → i < length xs → (x : ClockStep) × (get_elem? xs i ≡ some x)
      there_at [] i less = absurd (omega (arith, less))
      there_at (x ∷ xs) zero less = (x, refl)
      there_at (x ∷ xs) (suc i) less = there_at xs i (omega (arith, less))

  -- and one that was made stands at its index
  pub made_there : (es : List ClockEvent) → AreLabelled labels es → (n : ℕ) (label : Labelled) (made : IsMade es n label) →
      get_elem? (labels n) (length (steps_under n made.older)) ≡ some label
  made_there es all n label made =
      let labelled = labelled_tail es (made.e ∷ made.older) made.tail all in
      subst (λ n. get_elem? (labels n) (length (steps_under n made.older)) ≡ some label) made.by
      (labelled.1.there ∙ ap some made.is)

  -- the index is one that its number has come to
  pub made_within : (es : List ClockEvent) (n : ℕ) (label : Labelled) (made : IsMade es n label) →
      length (steps_under n made.older) < length (steps_under n es)
  made_within es n label made =
      let more : length (steps_under n (made.e ∷ made.older)) ≡ length (steps_under n made.older) + 1 =
      subst (λ n. length (steps_under n (made.e ∷ made.older)) ≡ length (steps_under n made.older) + 1) made.by
      (ap length (under_same made.older made.e.by made.e.step)
      ∙ length-append (steps_under made.e.by made.older) (made.e.step ∷ [])) in
      let most = under_length n (made.e ∷ made.older) es made.tail in
      omega (arith, more, most)

  -- an event among those that were shown was shown by a number
  take_within : (xs ys : List Event) (i : ℕ) → i ≤ length xs → take i (xs ++ ys) ≡ take i xs
  take_within xs ys zero within = refl
  take_within [] ys (suc i) within = absurd (omega (arith, within))
  take_within (x ∷ xs) ys (suc i) within = ap (λ zs. x ∷ zs) (take_within xs ys i (omega (arith, within)))

  shown_at : (es : List ClockEvent) (i : ℕ) (shown : Event) (count : ℕ) → get_elem? (shown_in labels es) i ≡ some shown →
      counted_in (take i (shown_in labels es)) ≡ count → IsShownBy es shown count
  shown_at [] i shown count at counts = absurd (some-ne-none shown (sym at))
  shown_at (e ∷ es) i shown count at counts = elim (cases_lt i (length (shown_in labels es))) [
    | inl less ↦
        let rest =
        shown_at es i shown count
        (sym (at_left (shown_in labels es) (shown_by (label_of labels es e)) i less) ∙ at)
        (ap counted_in (sym (take_within (shown_in labels es) (shown_by (label_of labels es e)) i (omega (arith, less)))) ∙ counts) in
        record {
          changes = rest.changes;
          found = rest.found;
          number = rest.number;
          made = later_made e es rest.number (shows shown rest.changes rest.found) rest.made;
          counts = rest.counts;
        }
    | inr most ↦
        let j : ℕ = i - length (shown_in labels es) in
        let sum : i ≡ length (shown_in labels es) + j = omega (arith, most) in
        by_label (label_of labels es e) refl j sum
        (sym (at_right (shown_in labels es) (shown_by (label_of labels es e)) i j sum) ∙ at)
  ]
    where
      take_whole : (xs ys : List Event) (k : ℕ) → k ≡ length xs → take k (xs ++ ys) ≡ xs
      take_whole [] ys zero is = refl
      take_whole [] ys (suc k) is = absurd (omega (arith, is))
      take_whole (x ∷ xs) ys zero is = absurd (omega (arith, is))
      take_whole (x ∷ xs) ys (suc k) is = ap (λ zs. x ∷ zs) (take_whole xs ys k (omega (arith, is)))

      by_label : (label : Labelled) → label_of labels es e ≡ label → (j : ℕ) → i ≡ length (shown_in labels es) + j →
          get_elem? (shown_by (label_of labels es e)) j ≡ some shown → IsShownBy (e ∷ es) shown count
      by_label (silent step) is j sum there =
          absurd (some-ne-none shown (sym (ap (λ label. get_elem? (shown_by label) j) (sym is) ∙ there)))
      by_label (allots act lane place) is j sum there =
          absurd (some-ne-none shown (sym (ap (λ label. get_elem? (shown_by label) j) (sym is) ∙ there)))
      by_label (shows other changes found) is zero sum there =
          let same : other ≡ shown =
          some-injective other shown (ap (λ label. get_elem? (shown_by label) 0) (sym is) ∙ there) in
          record {
            changes = changes;
            found = found;
            number = e.by;
            made = record {
              e = e;
              older = es;
              tail = inl refl;
              by = refl;
              is = is ∙ ap (λ event. shows event changes found) same;
            };
            counts =
                ap counted_in
                (sym (take_whole (shown_in labels es) (shown_by (label_of labels es e)) i (omega (arith, sum))))
                ∙ counts;
          }
      by_label (shows other changes found) is (suc j) sum there =
          absurd (some-ne-none shown (sym (ap (λ label. get_elem? (shown_by label) (suc j)) (sym is) ∙ there)))

  pub shown_made : (es : List ClockEvent) (shown : Event) (count : ℕ) → IsShownAt (shown_in labels es) shown count →
      IsShownBy es shown count
  shown_made es shown count is = shown_at es is.at shown count is.there is.counts

  -- what was made and shows an event stands among those shown
  shown_of_tail : (es : List ClockEvent) (e : ClockEvent) (older : List ClockEvent) (shown : Event) (changes : Change)
      (found : Found) → Tail (e ∷ older) es → label_of labels older e ≡ shows shown changes found →
      IsShownAt (shown_in labels es) shown (counted_in (shown_in labels older))
  shown_of_tail [] e older shown changes found tail is =
      absurd (let wrong = tail_length (e ∷ older) [] tail in omega (arith, wrong))
  shown_of_tail (next ∷ es) e older shown changes found (inl same) is =
      subst (λ hs. IsShownAt (shown_in labels hs) shown (counted_in (shown_in labels older))) same
      (subst (λ xs. IsShownAt (shown_in labels older ++ xs) shown (counted_in (shown_in labels older)))
      (sym (ap shown_by is)) (shown_now (shown_in labels older) shown shown (counted_in (shown_in labels older)) refl refl))
  shown_of_tail (next ∷ es) e older shown changes found (inr tail) is =
      shown_among (shown_in labels es) (shown_by (label_of labels es next)) shown (counted_in (shown_in labels older))
      (shown_of_tail es e older shown changes found tail is)

  pub made_shown : (es : List ClockEvent) (n : ℕ) (shown : Event) (changes : Change) (found : Found)
      (made : IsMade es n (shows shown changes found)) →
      IsShownAt (shown_in labels es) shown (counted_in (shown_in labels made.older))
  made_shown es n shown changes found made = shown_of_tail es made.e made.older shown changes found made.tail made.is

  -- so many were counted at an earlier step at most
  pub count_tail : (a es : List ClockEvent) → Tail a es → counted_in (shown_in labels a) ≤ counted_in (shown_in labels es)
  count_tail a [] tail = let same = ap (λ hs. counted_in (shown_in labels hs)) tail in omega (arith, same)
  count_tail a (e ∷ es) (inl same) = let all = ap (λ hs. counted_in (shown_in labels hs)) same in omega (arith, all)
  count_tail a (e ∷ es) (inr tail) =
      let rest = count_tail a es tail in
      let both = times-append is_counted (shown_in labels es) (shown_by (label_of labels es e)) in
      omega (arith, rest, both)

  -- Of two labels that were made the one is before the other
  module _ (es : List ClockEvent) (m n : ℕ) (one two : Labelled) (first : IsMade es m one) (second : IsMade es n two) where
    abbrev pub IsBefore : Type 0
    IsBefore = Tail (first.e ∷ first.older) second.older

    before_by_length : length first.older < length second.older → IsBefore
    before_by_length less =
        tails_order (first.e ∷ first.older) second.older es first.tail (tail_more second.older second.e es second.tail)
        (omega (arith, less))

    behind_by_length : length second.older ≤ length first.older → Tail second.older first.older
    behind_by_length most =
        tails_order second.older first.older es (tail_more second.older second.e es second.tail)
        (tail_more first.older first.e es first.tail) most

    -- where less was counted
    pub before_by_count : counted_in (shown_in labels first.older) < counted_in (shown_in labels second.older) → IsBefore
    before_by_count less = elim (cases_lt (length first.older) (length second.older)) [
      | inl shorter ↦ before_by_length shorter
      | inr most ↦
          absurd (let more = count_tail second.older first.older (behind_by_length most) in omega (arith, less, more))
    ]

    -- where it is the earlier of one number's labels
    pub before_by_index : m ≡ n → length (steps_under m first.older) < length (steps_under n second.older) → IsBefore
    before_by_index same less = elim (cases_lt (length first.older) (length second.older)) [
      | inl shorter ↦ before_by_length shorter
      | inr most ↦
          absurd (let more = under_length m second.older first.older (behind_by_length most) in
          let is = ap (λ k. length (steps_under k second.older)) same in
          omega (arith, less, more, is))
    ]

    -- then no less was counted before the other
    pub count_before : IsBefore → counted_in (shown_in labels first.older) ≤ counted_in (shown_in labels second.older)
    count_before before = count_tail first.older second.older (tail_more first.older first.e second.older before)

    -- and more, where it shows what is counted
    pub shown_before : (shown : Event) (changes : Change) (found : Found) → one ≡ shows shown changes found →
        is_counted shown ≡ true → IsBefore →
        counted_in (shown_in labels first.older) < counted_in (shown_in labels second.older)
    shown_before shown changes found is counts before =
        let most = count_tail (first.e ∷ first.older) second.older before in
        let both = times-append is_counted (shown_in labels first.older) (shown_by (label_of labels first.older first.e)) in
        let here : counted_in (shown_by (label_of labels first.older first.e)) ≡ one_if (is_counted shown) + 0 =
        ap (λ label. counted_in (shown_by label)) (first.is ∙ is) in
        let one : one_if (is_counted shown) ≡ 1 = ap one_if counts in
        omega (arith, most, both, here, one)

  -- Places of a lane are numbered in the order in which they were drawn
  module _ (lane : ℕ) where
    places_more : (step : ClockStep) (k : ℕ) → k ≤ places_with lane step k
    places_more (Draw shown changes found) k = omega arith
    places_more (Load found) k = omega arith
    places_more (Place at place) k = by (lane == at)
      where
        by : (b : Bool) → k ≤ cond b (k + 1) k
        by true = omega arith
        by false = omega arith
    places_more (Put at place note) k = omega arith
    places_more (Look at place held) k = omega arith
    places_more (Join counts) k = omega arith

    pub places_tail : (a es : List ClockEvent) → Tail a es → places_after lane a ≤ places_after lane es
    places_tail a [] tail = let same = ap (places_after lane) tail in omega (arith, same)
    places_tail a (e ∷ es) (inl same) = let all = ap (places_after lane) same in omega (arith, all)
    places_tail a (e ∷ es) (inr tail) =
        let rest = places_tail a es tail in
        let more = places_more e.step (places_after lane es) in
        omega (arith, rest, more)

    module _ (guards seats : ℕ) (es : List ClockEvent) (sound : IsSoundHistory guards seats es)
        (all : AreLabelled labels es) where
      -- a place that was drawn is the number of those before
      pub place_is : (n act place : ℕ) (made : IsMade es n (allots act lane place)) → place ≡ places_after lane made.older
      place_is n act place made =
          let labelled = labelled_tail es (made.e ∷ made.older) made.tail all in
          let step : made.e.step ≡ Place lane place = sym labelled.1.step ∙ ap step_of made.is in
          let here = sound_tail guards seats (made.e ∷ made.older) es made.tail sound in
          let fits : Fits guards made.older made.e.by (Place lane place) =
          subst (Fits guards made.older made.e.by) step here.2 in
          fits.0

      pub place_next : (n act place : ℕ) (made : IsMade es n (allots act lane place)) →
          places_after lane (made.e ∷ made.older) ≡ place + 1
      place_next n act place made =
          let labelled = labelled_tail es (made.e ∷ made.older) made.tail all in
          let step : made.e.step ≡ Place lane place = sym labelled.1.step ∙ ap step_of made.is in
          let is = place_is n act place made in
          ap (λ step. places_with lane step (places_after lane made.older)) step
          ∙ (ap (λ b. cond b (places_after lane made.older + 1) (places_after lane made.older)) (eq-eqb lane lane refl)
          ∙ omega (arith, is))

      -- the place that was drawn before is the lesser
      pub places_rise : (m n x y p q : ℕ) (first : IsMade es m (allots x lane p)) (second : IsMade es n (allots y lane q)) →
          IsBefore es m n (allots x lane p) (allots y lane q) first second → p < q
      places_rise m n x y p q first second before =
          let next = place_next m x p first in
          let is = place_is n y q second in
          let most = places_tail (first.e ∷ first.older) second.older before in
          omega (arith, next, is, most)

      -- and a place is drawn once, for one act
      pub placed_once : (m n x y p : ℕ) → IsMade es m (allots x lane p) → IsMade es n (allots y lane p) → x ≡ y
      placed_once m n x y p first second = elim (cases_lt (length first.older) (length second.older)) [
        | inl shorter ↦
            absurd (let less =
            places_rise m n x y p p first second
            (before_by_length es m n (allots x lane p) (allots y lane p) first second shorter) in
            omega (arith, less))
        | inr most ↦ elim (cases_lt (length second.older) (length first.older)) [
          | inl shorter ↦
              absurd (let less =
              places_rise n m y x p p second first
              (before_by_length es n m (allots y lane p) (allots x lane p) second first shorter) in
              omega (arith, less))
          | inr also ↦
              let tail =
              tails_order (first.e ∷ first.older) (second.e ∷ second.older) es first.tail second.tail
              (let size : length first.older ≡ length second.older = omega (arith, most, also) in omega (arith, size)) in
              let same : first.e ∷ first.older ≡ second.e ∷ second.older =
              tail_same (first.e ∷ first.older) (second.e ∷ second.older) tail
              (let size : length first.older ≡ length second.older = omega (arith, most, also) in omega (arith, size)) in
              let label : label_of labels first.older first.e ≡ label_of labels second.older second.e =
              ap (newest labels (label_of labels first.older first.e)) same in
              let are : allots x lane p ≡ allots y lane p = sym first.is ∙ (label ∙ second.is) in
              cc
        ]
      ]
