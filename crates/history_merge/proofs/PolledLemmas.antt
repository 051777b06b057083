-- Where polling is over, each place that was drawn on a lane was started: what a look of the opener found empty was no
-- place yet.
use Rattle.std.proofs.Common.{◌≡◌, ℕ, zero, suc, ◌+◌, ◌<◌, ◌≤◌, List, [], ◌∷◌, ◌++◌, inl, inr, length, map, take, refl, sym, ap, subst, ◌∙◌, arith}
use Rattle.std.specs.Prelude.{Contains, None, Some, get_or, slice_index}
use Rattle.std.proofs.Math.Seq.{take-append_seam}
use Rattle.std.proofs.lemmas.Bool.{cases_eq, cases_lt}
use Rattle.std.proofs.lemmas.List.{append_assoc}
use mathlib.Core.Option.{some}
use lib.ListN.{get_elem?}
use Rattle.asio_types.specs.declared.event.Event.{Event}
use Rattle.session_script.specs.Script.{ScriptModel}
use Rattle.session_script.specs.WellFormed.{IsWellFormed}
use Rattle.lane_clock.specs.declared.found.Change.{Change}
use Rattle.lane_clock.specs.declared.found.Found.{Found}
use Rattle.lane_clock.specs.declared.note.Note.{Note}
use Rattle.lane_clock.specs.declared.step.ClockStep.{ClockStep}
use Rattle.lane_clock.specs.declared.step.ClockStep.TheVariants.{Load, Look}
use Rattle.lane_clock.specs.History.{ClockEvent, cell_after, places_after, steps_under}
use Rattle.lane_clock.proofs.KnownLemmas.{event}
use Rattle.lane_clock.proofs.MomentLemmas.{Tail, moment_of, sound_tail, tail_more, tail_refl, tail_trans, within_before}
use Rattle.lane_map.specs.LaneNumbers.{cells_of}
use Rattle.lane_logs.specs.Cuts.{HasStarted}
use Rattle.lane_logs.specs.Labels.{Labelled, allots, shows, silent, steps_in}
use Rattle.lane_logs.specs.LaneLog.{MayFollow}
use Rattle.lane_logs.specs.Logs.{AreLogs, LogsView, session_layout}
use Rattle.lane_logs.specs.Names.{SessionNames}
use Rattle.lane_logs.specs.OpenerLog.{ClosedPart, ClosesPolled, Looked, MayFollowOpened, OpenerPart, closed, labels_of_opener, look_label, opener_labels, opener_steps}
use Rattle.lane_logs.specs.Parts.{Part, labels_in}
use Rattle.lane_logs.specs.SeatNumbers.{IsWorkerSeat, lane_count, opener_seat}
use Rattle.lane_logs.specs.WorkerLog.{MayFollowStopped, WorkerPart, stopped, waiting}
use Rattle.history_merge.proofs.AtEventLemmas.{lane_between}
use Rattle.history_merge.proofs.HistoryLemmas.{AreLabelled, label_of}
use Rattle.history_merge.proofs.LabellingLemmas.{AreLabels}
use Rattle.history_merge.proofs.LookingLemmas.{are_looks, closing_over, closing_quiet, load_moment, looks_cell}
use Rattle.history_merge.proofs.OpenerLemmas.{stand_at}
use Rattle.history_merge.proofs.TimeLemmas.{IsMade}
use Rattle.history_merge.proofs.OpenerPartLemmas.{opener_at, opener_so_far, opener_steps_are}
use Rattle.history_merge.proofs.PartLemmas.{Every, Follow, IsMadeAt, all_made, at_right, every_made, follow_from, labels_worker, made-append, opener_made}
use Rattle.history_merge.proofs.SoFarLemmas.{made_so_far}
use Rattle.history_merge.proofs.SoonLemmas.{AllSoon, cells_full, lane_soon, looks_soon, opener_soon, parts_soon, places_got, soon-append}
use Rattle.history_merge.proofs.StillReactorLemmas.{others_are}
use Rattle.history_merge.proofs.StoodLemmas.{closed_behind}

-- the labels of a worker get no place
abbrev pub GetsNone : Labelled → Type 0
GetsNone (silent step) = Unit {0}
GetsNone (shows shown changes found) = Unit {0}
GetsNone (allots act lane place) = ⊥

pub none_soon : (script : ScriptModel) (labels : List Labelled) (n : ℕ) → Every GetsNone labels →
    AllSoon script (take n labels)
none_soon script labels zero all = tt
none_soon script [] (suc n) all = tt
none_soon script (silent step ∷ labels) (suc n) all = (tt, none_soon script labels n all.1)
none_soon script (shows shown changes found ∷ labels) (suc n) all = (tt, none_soon script labels n all.1)
none_soon script (allots act lane place ∷ labels) (suc n) all = absurd all.0

pub worker_none : (script : ScriptModel) (opener : List ClockStep) (earlier : List WorkerPart) (part : WorkerPart) →
    MayFollowStopped script opener earlier part → Every GetsNone (labels_worker part)
worker_none script opener earlier (waiting step) may = (tt, tt)
worker_none script opener earlier (stopped drawn) may = (tt, tt)

look_in : (looks : List Looked) (k : ℕ) (looked : Looked) → k < length looks → get_or looks k looked ≡ looked →
    get_elem? (steps_in (map look_label looks)) k ≡ some (Look looked.lane looked.place looked.held)
look_in [] k looked within is = absurd (omega (arith, within))
look_in (look ∷ looks) zero looked within is = ap (λ (l : Looked). some (Look l.lane l.place l.held)) is
look_in (look ∷ looks) (suc k) looked within is = look_in looks k looked (omega (arith, within)) is

module _ (names : SessionNames) (well : IsWellFormed names.script) (logs : LogsView) (labels : ℕ → List Labelled)
    (logged : AreLogs names logs) (are : AreLabels names logs labels) (e : ClockEvent) (es : List ClockEvent)
    (tail : Tail (e ∷ es) logged.closed.history) (all : AreLabelled labels (e ∷ es))
    (by : e.by ≡ opener_seat names.script) (shown : Event) (changes : Change) (found : Found)
    (is : label_of labels es e ≡ shows shown changes found) (part : ClosedPart)
    (here : (opener_at names logs labels logged are e es tail all.1 by).part ≡ closed part) where
  abbrev script : ScriptModel
  script = names.script

  abbrev opener : ℕ
  opener = opener_seat names.script

  abbrev at : IsMadeAt OpenerPart opener_labels are.opener.parts (length (steps_under opener es)) (label_of labels es e)
  at = opener_at names logs labels logged are e es tail all.1 by

  older : Tail es logged.closed.history
  older = tail_more es e logged.closed.history tail

  over : (stand_at names.script opener es).opening ≡ 0
  over = closing_over names well logs labels logged are e es tail all by shown changes found is part here

  front : at.before ≡ silent (Load part.load) ∷ map look_label part.looks
  front = (closed_behind names well logs labels logged are e es tail all by shown changes found is part here).front

  -- all places so far have their puts
  lane_all_soon : (lane : ℕ) (within : lane < lane_count names.script) → AllSoon script (made_so_far labels es lane)
  lane_all_soon lane within =
      let made = are.lanes lane within in
      let between = lane_between names logs labels logged are e es tail all.1 by shown changes found is over lane within in
      let more = made-append Part (labels_in script lane) between.later between.earlier in
      let whole : made_so_far labels es lane ≡ all_made Part (labels_in script lane) between.earlier =
      ap (λ k. take k (labels lane)) between.count_is
      ∙ (ap (take (length (all_made Part (labels_in script lane) between.earlier)))
      (made.are ∙ (ap (all_made Part (labels_in script lane)) between.parts_are ∙ more.1))
      ∙ take-append_seam (all_made Part (labels_in script lane) between.earlier) more.0) in
      subst (AllSoon script) (sym whole)
      (parts_soon script Part (labels_in script lane) (MayFollow names (logs.lists opener) lane)
      (lane_soon names (logs.lists opener) lane) between.earlier
      (follow_from Part (labels_in script lane) (MayFollow names (logs.lists opener) lane) between.later between.earlier
      (subst (Follow Part (labels_in script lane) (MayFollow names (logs.lists opener) lane)) between.parts_are made.follow)))

  worker_all_soon : (n : ℕ) → IsWorkerSeat names.script n → AllSoon script (made_so_far labels es n)
  worker_all_soon n worker =
      let made = are.workers n worker in
      none_soon script (labels n) (length (steps_under n es))
      (subst (Every GetsNone) (sym made.are)
      (every_made WorkerPart labels_worker (MayFollowStopped script (logs.lists opener)) GetsNone
      (worker_none script (logs.lists opener)) made.parts made.follow))

  opener_all_soon : AllSoon script (made_so_far labels es opener)
  opener_all_soon =
      let made = are.opener in
      let first : AllSoon script (labels_of_opener at.earlier) =
      subst (AllSoon script) (sym (opener_made at.earlier))
      (parts_soon script OpenerPart opener_labels (MayFollowOpened script logs.lists) (opener_soon script logs.lists)
      at.earlier
      (follow_from OpenerPart opener_labels (MayFollowOpened script logs.lists) (at.later ++ at.part ∷ []) at.earlier
      (subst (Follow OpenerPart opener_labels (MayFollowOpened script logs.lists))
      (at.parts_are ∙ sym (append_assoc at.later (at.part ∷ []) at.earlier)) made.follow))) in
      subst (AllSoon script) (sym (opener_so_far names logs labels logged are e es tail all.1 by))
      (soon-append script (labels_of_opener at.earlier) at.before first
      (subst (AllSoon script) (sym front) (tt, looks_soon script part.looks)))

  all_soon : (n : ℕ) → AllSoon script (made_so_far labels es n)
  all_soon n = elim (cases_lt n (lane_count script)) [
    | inl lane ↦ lane_all_soon n lane
    | inr behind ↦ elim (cases_lt n opener) [
      | inl before ↦ worker_all_soon n (record { behind = behind; before = before })
      | inr beyond ↦ elim (cases_eq n opener) [
        | inl same ↦ subst (λ n. AllSoon script (made_so_far labels es n)) (sym same) opener_all_soon
        | inr isnt ↦
            subst (λ made. AllSoon script (take (length (steps_under n es)) made))
            (sym (are.others n (omega (arith, beyond, isnt)))) (none_soon script [] (length (steps_under n es)) tt)
      ]
    ]
  ]

  -- so their cells are full
  pub place_full : (number act lane place : ℕ) → IsMade labels es number (allots act lane place) →
      place < slice_index (cells_of names.script) lane →
      (note : Note) × (note.op ≡ act) × (cell_after lane place es ≡ Some note)
  place_full =
      cells_full script labels script.guards (session_layout script).seats es
      (sound_tail script.guards (session_layout script).seats es logged.closed.history older logged.closed.sound) all.0 all_soon

  -- what a look found empty still is
  still_empty : (lane place : ℕ) → Contains part.looks (record { lane = lane; place = place; held = None }) →
      cell_after lane place es ≡ None
  still_empty lane place among =
      let looked : Looked = record { lane = lane; place = place; held = None } in
      let k : ℕ = among.0 in
      let index : ℕ = length (opener_steps at.earlier) in
      let step : get_elem? (steps_under opener es) (index + suc k) ≡ some (Look lane place None) =
      subst (λ xs. get_elem? xs (index + suc k) ≡ some (Look lane place None))
      (sym (opener_steps_are names logs labels logged are e es tail all.1 by
      ∙ ap (λ labels. opener_steps at.earlier ++ steps_in labels) front))
      (at_right (opener_steps at.earlier) (Load part.load ∷ steps_in (map look_label part.looks)) (index + suc k) (suc k) refl
      ∙ look_in part.looks k looked among.1 among.2) in
      let looking = moment_of es opener (index + suc k) (Look lane place None) step in
      let loading = load_moment names well logs labels logged are e es tail all by shown changes found is part here in
      let place_of = looking.index in
      let after = within_before es opener index opener (index + suc k) (Load part.load) (Look lane place None) loading looking
      (omega (arith, place_of)) in
      let first : List ClockEvent = event opener (Look lane place None) ∷ looking.older in
      let sound =
      sound_tail script.guards (session_layout script).seats first logged.closed.history
      (tail_trans first es logged.closed.history looking.tail older) logged.closed.sound in
      let fits : None ≡ cell_after lane place looking.older = sound.2 in
      looks_cell labels first lane place
      (are_looks names well logs labels logged are e es tail all by shown changes found is part here first (inr after) es
      looking.tail (tail_refl es))
      ∙ sym fits

  -- so each place so far was started
  module _ (polls : ClosesPolled names.script logs.lists at.earlier part.load part.looks)
      (none_beyond : (lane : ℕ) → lane < lane_count names.script →
      places_after lane es ≤ slice_index (cells_of names.script) lane) where
    pub all_started : (lane : ℕ) → lane < lane_count names.script → (place : ℕ) → place < places_after lane es →
        HasStarted (steps_under lane es) lane place
    all_started lane within place less =
        let polled = polls.lanes lane within in
        let known =
        others_are names logs labels logged are e es tail all by shown changes found is over
        (closing_quiet names well logs labels logged are e es tail all by shown changes found is part here) lane
        (omega (arith, within)) in
        elim (cases_lt place polled.next) [
          | inl before ↦ subst (λ steps. HasStarted steps lane place) known (polled.started place before)
          | inr behind ↦
              let most = none_beyond lane within in
              let has : polled.next < slice_index (cells_of script) lane = omega (arith, behind, less, most) in
              let got =
              places_got labels lane script.guards (session_layout script).seats es
              (sound_tail script.guards (session_layout script).seats es logged.closed.history older logged.closed.sound)
              all.0 polled.next (omega (arith, behind, less)) in
              let full = place_full got.number got.act lane polled.next got.made has in
              let empty = still_empty lane polled.next (polled.empty has) in
              absurd (let wrong : Some full.0 ≡ None = sym full.2 ∙ empty in cc)
        ]
