-- Between the load by which the opener closes a round and the draw that closes it there are looks of the opener alone.
use Rattle.std.proofs.Common.{◌≡◌, ℕ, zero, suc, ◌+◌, ◌-◌, ◌<◌, ◌≤◌, List, [], ◌∷◌, ◌++◌, inl, inr, length, map, take, refl, sym, ap, subst, ◌∙◌, arith, length-append}
use Rattle.std.specs.Prelude.{Option}
use Rattle.std.proofs.Math.Seq.{take-append_seam}
use Rattle.std.proofs.lemmas.Bool.{cases_eq, cases_lt}
use Rattle.std.proofs.lemmas.List.{append-nil, length-map}
use mathlib.Core.Option.{some, some-ne-none}
use lib.ListN.{get_elem?}
use Rattle.asio_types.specs.declared.event.Event.{Event}
use Rattle.session_script.specs.WellFormed.{IsWellFormed}
use Rattle.lane_clock.specs.declared.found.Change.{Change}
use Rattle.lane_clock.specs.declared.found.Found.{Found}
use Rattle.lane_clock.specs.declared.note.Note.{Note}
use Rattle.lane_clock.specs.declared.step.ClockStep.{ClockStep}
use Rattle.lane_clock.specs.declared.step.ClockStep.TheVariants.{Draw, Load, Place, Put, Look, Join}
use Rattle.lane_clock.specs.ClockWord.{found_of}
use Rattle.lane_clock.specs.Knowledge.{StartOf}
use Rattle.lane_clock.specs.History.{ClockEvent, Fits, cell_after, cell_with, steps_under, word_after, word_with}
use Rattle.lane_clock.proofs.KnownLemmas.{event, under_same}
use Rattle.lane_clock.proofs.MomentLemmas.{Moment, Tail, moment_of, sound_tail, tail_more, tail_refl, tail_trans, under_grows, under_length}
use Rattle.lane_logs.specs.Knowing.{joined_count}
use Rattle.lane_logs.specs.Labels.{Labelled, allots, shows, silent, step_of, steps_in}
use Rattle.lane_logs.specs.Logs.{AreLogs, LogsView, session_layout}
use Rattle.lane_logs.specs.Names.{SessionNames}
use Rattle.lane_logs.specs.OpenerLog.{ClosedPart, Looked, OpenerPart, closed, labels_of_opener, look_label, opener_labels, opener_steps, stand_after}
use Rattle.lane_logs.specs.SeatNumbers.{opener_seat}
use Rattle.lane_logs.specs.Stand.{Stand}
use Rattle.history_merge.proofs.CutLemmas.{joined_within, open_opened}
use Rattle.history_merge.proofs.HistoryLemmas.{AreLabelled, IsLabelled, label_of, shown_by, shown_in}
use Rattle.history_merge.proofs.LabellingLemmas.{AreLabels}
use Rattle.history_merge.proofs.OpenerLemmas.{stand_at}
use Rattle.history_merge.proofs.OpenerPartLemmas.{opener_at, opener_so_far, opener_steps_are}
use Rattle.history_merge.proofs.PartLemmas.{Every, IsMadeAt, at_right, at_seam, every_at}
use Rattle.history_merge.proofs.StillReactorLemmas.{looks_quiet, taken_in}
use Rattle.history_merge.proofs.StoodLemmas.{closed_behind, closed_part, closed_stood}

pub labelled_tail : (labels : ℕ → List Labelled) (es a : List ClockEvent) → Tail a es → AreLabelled labels es →
    AreLabelled labels a
labelled_tail labels [] a tail all = subst (AreLabelled labels) (sym tail) tt
labelled_tail labels (e ∷ es) a (inl same) all = subst (AreLabelled labels) (sym same) all
labelled_tail labels (e ∷ es) a (inr tail) all = labelled_tail labels es a tail all.0

pub take_at : {A : Type 0} → (xs : List A) (n i : ℕ) (x : A) → i < n → get_elem? xs i ≡ some x →
    get_elem? (take n xs) i ≡ some x
take_at [] n i x less at = absurd (some-ne-none x (sym at))
take_at (y ∷ xs) zero i x less at = absurd (omega (arith, less))
take_at (y ∷ xs) (suc n) zero x less at = at
take_at (y ∷ xs) (suc n) (suc i) x less at = take_at xs n i x (omega (arith, less)) at

-- from one history to a longer one there are looks alone, which show nothing
pub data AreLooks (labels : ℕ → List Labelled) (first : List ClockEvent) : List ClockEvent → Type 0 where
  no_look : AreLooks labels first first
  one_look : {e : ClockEvent} {es : List ClockEvent} {lane place : ℕ} {held : Option Note} →
      e.step ≡ Look lane place held → shown_by (label_of labels es e) ≡ [] → AreLooks labels first es →
      AreLooks labels first (e ∷ es)

module _ (labels : ℕ → List Labelled) (first : List ClockEvent) where
  pub looks_show : {es : List ClockEvent} → AreLooks labels first es → shown_in labels es ≡ shown_in labels first
  looks_show no_look = refl
  looks_show (one_look {e} {es} is none more) =
      ap (λ events. shown_in labels es ++ events) none ∙ (append-nil (shown_in labels es) ∙ looks_show more)

  pub looks_word : (guards : ℕ) {es : List ClockEvent} → AreLooks labels first es →
      word_after guards es ≡ word_after guards first
  looks_word guards no_look = refl
  looks_word guards (one_look {e} {es} is none more) =
      ap (λ step. word_with step (word_after guards es)) is ∙ looks_word guards more

  pub looks_cell : (lane place : ℕ) {es : List ClockEvent} → AreLooks labels first es →
      cell_after lane place es ≡ cell_after lane place first
  looks_cell lane place no_look = refl
  looks_cell lane place (one_look {e} {es} is none more) =
      ap (λ step. cell_with lane place step (cell_after lane place es)) is ∙ looks_cell lane place more

-- the label of a look
abbrev IsLookStep : ClockStep → Type 0
IsLookStep (Look lane place held) = Unit {0}
IsLookStep (Draw shown changes found) = ⊥
IsLookStep (Load found) = ⊥
IsLookStep (Place lane place) = ⊥
IsLookStep (Put lane place note) = ⊥
IsLookStep (Join counts) = ⊥

abbrev IsLook : Labelled → Type 0
IsLook (silent step) = IsLookStep step
IsLook (shows shown changes found) = ⊥
IsLook (allots act lane place) = ⊥

all_look : (looks : List Looked) → Every IsLook (map look_label looks)
all_look [] = tt
all_look (look ∷ looks) = (tt, all_look looks)

module _ (names : SessionNames) (well : IsWellFormed names.script) (logs : LogsView) (labels : ℕ → List Labelled)
    (logged : AreLogs names logs) (are : AreLabels names logs labels) (e : ClockEvent) (es : List ClockEvent)
    (tail : Tail (e ∷ es) logged.closed.history) (all : AreLabelled labels (e ∷ es))
    (by : e.by ≡ opener_seat names.script) (shown : Event) (changes : Change) (found : Found)
    (is : label_of labels es e ≡ shows shown changes found) (part : ClosedPart)
    (here : (opener_at names logs labels logged are e es tail all.1 by).part ≡ closed part) where
  abbrev opener : ℕ
  opener = opener_seat names.script

  abbrev guards : ℕ
  guards = names.script.guards

  abbrev at : IsMadeAt OpenerPart opener_labels are.opener.parts (length (steps_under opener es)) (label_of labels es e)
  at = opener_at names logs labels logged are e es tail all.1 by

  older : Tail es logged.closed.history
  older = tail_more es e logged.closed.history tail

  front : at.before ≡ silent (Load part.load) ∷ map look_label part.looks
  front = (closed_behind names well logs labels logged are e es tail all by shown changes found is part here).front

  pub closing_over : (stand_at names.script opener es).opening ≡ 0
  closing_over =
      ap (λ (s : Stand). s.opening) (closed_stood names well logs labels logged are e es tail all by shown changes found is part here)
      ∙ open_opened names.script (stand_after names.script logs.lists at.earlier)
      (closed_part names well logs labels logged are e es tail all by shown changes found is part here).round

  pub closing_quiet : (n : ℕ) → joined_count n (steps_in at.before) ≡ 0
  closing_quiet n = ap (λ labels. joined_count n (steps_in labels)) front ∙ looks_quiet n part.looks

  -- where the load was made
  abbrev index : ℕ
  index = length (opener_steps at.earlier)

  pub load_there : get_elem? (steps_under opener es) index ≡ some (Load part.load)
  load_there =
      subst (λ xs. get_elem? xs index ≡ some (Load part.load))
      (sym (opener_steps_are names logs labels logged are e es tail all.1 by
      ∙ ap (λ labels. opener_steps at.earlier ++ steps_in labels) front))
      (at_seam (opener_steps at.earlier) (Load part.load) (steps_in (map look_label part.looks)))

  abbrev pub load_moment : Moment es opener index (Load part.load)
  load_moment = moment_of es opener index (Load part.load) load_there

  abbrev pub before_load : List ClockEvent
  before_load = load_moment.older

  abbrev pub behind_load : List ClockEvent
  behind_load = event opener (Load part.load) ∷ before_load

  load_tail : Tail behind_load logged.closed.history
  load_tail = tail_trans behind_load es logged.closed.history load_moment.tail older

  opener_before : steps_under opener before_load ≡ opener_steps at.earlier
  opener_before =
      let start : StartOf (steps_under opener before_load) (steps_under opener es) =
      under_grows opener before_load es (tail_more before_load (event opener (Load part.load)) es load_moment.tail) in
      sym (take-append_seam (steps_under opener before_load) start.0)
      ∙ (ap (take (length (steps_under opener before_load))) (sym start.1)
      ∙ (ap (λ k. take k (steps_under opener es)) (sym load_moment.index)
      ∙ (ap (take index) (opener_steps_are names logs labels logged are e es tail all.1 by)
      ∙ take-append_seam (opener_steps at.earlier) (steps_in at.before))))

  -- no other number has made a step since
  others_still : (n : ℕ) → n < opener → length (steps_under n es) ≤ length (steps_under n before_load)
  others_still n before =
      let taken =
      taken_in names logs labels logged are e es tail all by shown changes found is closing_over closing_quiet n before in
      let sound =
      sound_tail guards (session_layout names.script).seats behind_load logged.closed.history load_tail logged.closed.sound in
      let most = joined_within guards (session_layout names.script).seats before_load sound.0 opener n in
      let same = ap (joined_count n) opener_before in
      omega (arith, taken, most, same)

  module _ (x : ClockEvent) (xs : List ClockEvent) (since : Tail behind_load xs) (until : Tail (x ∷ xs) es) where
    labelled : IsLabelled labels xs x
    labelled = (labelled_tail labels es (x ∷ xs) until all.0).1

    grown : length (steps_under x.by (x ∷ xs)) ≡ length (steps_under x.by xs) + 1
    grown = ap length (under_same xs x.by x.step) ∙ length-append (steps_under x.by xs) (x.step ∷ [])

    by_opener : x.by ≡ opener
    by_opener = elim (cases_eq x.by opener) [
      | inl same ↦ same
      | inr other ↦ elim (cases_lt x.by opener) [
        | inl before ↦
            let more = under_length x.by (x ∷ xs) es until in
            let still = others_still x.by before in
            let first =
            under_length x.by before_load xs (tail_more before_load (event opener (Load part.load)) xs since) in
            absurd (omega (arith, more, still, first, grown))
        | inr beyond ↦
            absurd (some-ne-none (label_of labels xs x)
            (sym (subst (λ made. get_elem? made (length (steps_under x.by xs)) ≡ some (label_of labels xs x))
            (are.others x.by (omega (arith, beyond, other))) labelled.there)))
      ]
    ]

    is_look : IsLook (label_of labels xs x)
    is_look =
        let k : ℕ = length (steps_under opener xs) in
        let label : Labelled = label_of labels xs x in
        let there : get_elem? (labels opener) k ≡ some label =
        subst (λ n. get_elem? (labels n) (length (steps_under n xs)) ≡ some label) by_opener labelled.there in
        let now : length (steps_under opener (x ∷ xs)) ≡ k + 1 =
        subst (λ n. length (steps_under n (x ∷ xs)) ≡ length (steps_under n xs) + 1) by_opener grown in
        let most = under_length opener (x ∷ xs) es until in
        let least = under_length opener behind_load xs since in
        let loaded : length (steps_under opener behind_load) ≡ length (steps_under opener before_load) + 1 =
        ap length (under_same before_load opener (Load part.load))
        ∙ length-append (steps_under opener before_load) (Load part.load ∷ []) in
        let place = load_moment.index in
        let size : index ≡ length (labels_of_opener at.earlier) = length-map (labels_of_opener at.earlier) step_of in
        let first : get_elem? (labels_of_opener at.earlier ++ at.before) k ≡ some label =
        subst (λ labels. get_elem? labels k ≡ some label) (opener_so_far names logs labels logged are e es tail all.1 by)
        (take_at (labels opener) (length (steps_under opener es)) k label (omega (arith, most, now)) there) in
        let second : get_elem? at.before (k - length (labels_of_opener at.earlier)) ≡ some label =
        sym (at_right (labels_of_opener at.earlier) at.before k (k - length (labels_of_opener at.earlier))
        (omega (arith, least, loaded, place, size))) ∙ first in
        let third : get_elem? (silent (Load part.load) ∷ map look_label part.looks)
        (suc (k - length (labels_of_opener at.earlier) - 1)) ≡ some label =
        subst (λ i. get_elem? (silent (Load part.load) ∷ map look_label part.looks) i ≡ some label)
        (let more : k - length (labels_of_opener at.earlier) ≡ suc (k - length (labels_of_opener at.earlier) - 1) =
        omega (arith, least, loaded, place, size) in more)
        (subst (λ labels. get_elem? labels (k - length (labels_of_opener at.earlier)) ≡ some label) front second) in
        every_at IsLook (map look_label part.looks) (all_look part.looks) (k - length (labels_of_opener at.earlier) - 1) label
        third

    look_on : (first : List ClockEvent) → (label : Labelled) → label_of labels xs x ≡ label → IsLook label →
        AreLooks labels first xs → AreLooks labels first (x ∷ xs)
    look_on first (silent (Look lane place held)) is looks more =
        one_look (sym labelled.step ∙ ap step_of is) (ap shown_by is) more
    look_on first other is looks more = absurd looks

  -- so what follows are looks
  pub are_looks : (first : List ClockEvent) → Tail behind_load first → (xs : List ClockEvent) → Tail first xs → Tail xs es →
      AreLooks labels first xs
  are_looks first loaded [] since until = subst (AreLooks labels first) since no_look
  are_looks first loaded (x ∷ xs) (inl same) until = subst (AreLooks labels first) same no_look
  are_looks first loaded (x ∷ xs) (inr since) until =
      let then = tail_trans behind_load first xs loaded since in
      look_on x xs then until first (label_of labels xs x) refl (is_look x xs then until)
      (are_looks first loaded xs since (tail_more xs x es until))

  -- and the load found what the word still holds
  pub load_finds : part.load ≡ found_of (word_after names.script.guards es)
  load_finds =
      let sound =
      sound_tail guards (session_layout names.script).seats behind_load logged.closed.history load_tail logged.closed.sound in
      let fits : Fits guards before_load opener (Load part.load) = sound.2 in
      fits
      ∙ ap found_of (sym (looks_word labels behind_load guards
      (are_looks behind_load (tail_refl behind_load) es load_moment.tail (tail_refl es))))
