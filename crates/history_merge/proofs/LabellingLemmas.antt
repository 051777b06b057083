-- The labels of the steps under each number, by the parts of its log.
use Rattle.std.proofs.Common.{◌≡◌, ◌≢◌, ◌⊎◌, ℕ, ◌+◌, ◌<◌, ◌≤◌, Bool, List, [], ◌∷◌, ◌++◌, inl, inr, length, map, refl, sym, ap, subst, ◌∙◌, arith}
use Rattle.std.proofs.lemmas.Bool.{cases_eq, cases_lt}
use Rattle.std.proofs.lemmas.List.{get_or_past}
use Rattle.std.proofs.lemmas.List.FromFn.{length-map-range_with_len}
use mathlib.Core.Option.{some, some-ne-none}
use lib.ListN.{get_elem?}
use Rattle.asio_types.specs.declared.event.Event.{Event}
use Rattle.session_script.specs.Script.{ScriptModel}
use Rattle.lane_clock.specs.declared.step.ClockStep.{ClockStep}
use Rattle.lane_clock.specs.declared.step.ClockStep.TheVariants.{Draw, Load, Place, Put, Look, Join}
use Rattle.lane_clock.specs.History.{ClockEvent, IsSoundHistory, steps_under}
use Rattle.lane_clock.proofs.KnownLemmas.{under_other}
use Rattle.lane_map.specs.LaneNumbers.{cells_of, cells_on, lane_list}
use Rattle.lane_logs.specs.Labels.{Labelled, entries_in, silent, steps_in}
use Rattle.lane_logs.specs.LaneLog.{AreParts, IsIdleStep, MayFollow}
use Rattle.lane_logs.specs.Logs.{AreLogs, LogsView, entries_of, missed_by}
use Rattle.lane_logs.specs.Names.{SessionNames}
use Rattle.lane_logs.specs.OpenerLog.{AreOpenerParts, IsRestingStep, MayFollowOpened, OpenerPart, closed, labels_of_opener, look_label, opened, opener_labels, resting, restarted}
use Rattle.lane_logs.specs.Parts.{Part, TurnPart, TurnStart, end_labels, executed, failed, first_missed, idle, labels_in, labels_of, looks_empty, missing, passes, start_labels, takes, turned}
use Rattle.lane_logs.specs.SeatNumbers.{IsWorkerSeat, lane_count, opener_seat, worker_count}
use Rattle.lane_logs.specs.WorkerLog.{AreWorkerParts, MayFollowStopped, WorkerPart, labels_of_worker, stopped, waiting}
use Rattle.history_merge.proofs.EachLabelLemmas.{HoldsOf, calls_each, empty_each, end_each, is_of_execution, is_of_turn, looks_each}
use Rattle.history_merge.proofs.HistoryLemmas.{IsPlain}
use Rattle.history_merge.proofs.PartLemmas.{Every, Follow, all_made, every-append, every_among, every_at, labels_worker, lane_made, opener_made, worker_made}

-- Steps by themselves neither draw nor get a place
holds_plain : (test : Event → Bool) → HoldsOf test IsPlain
holds_plain test = record {
  events = λ shown is changes found. tt;
  places = λ act lane place. tt;
  puts = λ lane place note. (refl, refl);
}

module _ (script : ScriptModel) where
  start_plain : (lane place : ℕ) (part : TurnPart) (start : TurnStart) →
      Every IsPlain (start_labels script lane place part.load part.drawn start)
  start_plain lane place part (takes note changes) = ((refl, refl), ((refl, refl), (tt, tt)))
  start_plain lane place part (passes shown) =
      every-append IsPlain (looks_empty script lane place) _ (empty_each IsPlain script lane place (refl, refl))
      ((refl, refl), (tt, tt))

  resting_plain : (step : ClockStep) → IsRestingStep step → Every IsPlain (silent step ∷ [])
  resting_plain (Draw shown changes found) rests = absurd rests
  resting_plain (Load found) rests = ((refl, refl), tt)
  resting_plain (Place lane place) rests = absurd rests
  resting_plain (Put lane place note) rests = absurd rests
  resting_plain (Look lane place held) rests = ((refl, refl), tt)
  resting_plain (Join counts) rests = ((refl, refl), tt)

  worker_plain : (opener : List ClockStep) (parts : List WorkerPart) (part : WorkerPart) →
      MayFollowStopped script opener parts part → Every IsPlain (labels_worker part)
  worker_plain opener parts (waiting step) may = resting_plain step may
  worker_plain opener parts (stopped drawn) may = (tt, tt)

  opener_plain : (lists : ℕ → List ClockStep) (parts : List OpenerPart) (part : OpenerPart) →
      MayFollowOpened script lists parts part → Every IsPlain (opener_labels part)
  opener_plain lists parts (resting step) may = resting_plain step may
  opener_plain lists parts (opened calls labels) may = calls_each IsPlain script (holds_plain is_of_execution) may.drawn
  opener_plain lists parts (restarted drawn) may = (tt, tt)
  opener_plain lists parts (closed part) may = (
    (refl, refl),
    every-append IsPlain (map look_label part.looks) _ (looks_each IsPlain (λ look. (refl, refl)) part.looks) (tt, tt),
  )

module _ (names : SessionNames) (opener : List ClockStep) (lane : ℕ) where
  idle_plain : (parts : List Part) (step : ClockStep) → IsIdleStep names opener lane parts step →
      Every IsPlain (silent step ∷ [])
  idle_plain parts (Draw shown changes found) is = absurd is
  idle_plain parts (Load found) is = ((refl, refl), tt)
  idle_plain parts (Place at place) is = absurd is
  idle_plain parts (Put at place note) is = absurd is
  idle_plain parts (Look at place held) is = ((refl, refl), tt)
  idle_plain parts (Join counts) is = ((refl, refl), tt)

  part_plain : (parts : List Part) (part : Part) → MayFollow names opener lane parts part →
      Every IsPlain (labels_in names.script lane part)
  part_plain parts (idle step) may = idle_plain parts step may
  part_plain parts (executed part) may =
      ((refl, refl), ((refl, refl), calls_each IsPlain names.script (holds_plain is_of_execution) may.drawn))
  part_plain parts (turned part) may =
      every-append IsPlain (start_labels names.script lane part.place part.load part.drawn part.start) (end_labels part.end)
      (start_plain names.script lane part.place part part.start)
      (end_each IsPlain names.script (holds_plain is_of_turn) names.told _ part.end may.ends)
  part_plain parts (failed part) may =
      every-append IsPlain (looks_empty names.script lane part.place) _ (empty_each IsPlain names.script lane part.place (refl, refl))
      ((refl, refl), (tt, tt))
  part_plain parts (missing place note) may = ((refl, refl), tt)

-- Parts that follow one another and make these labels
pub record AreMadeOf (P : Type 0) (made : P → List Labelled) (May : List P → P → Type 0) (labels : List Labelled)
    : Type 0 where
  pub parts : List P
  pub follow : Follow P made May parts
  pub are : labels ≡ all_made P made parts

-- parts of a lane, of a worker and of the opener follow one another so
lane_follow : (names : SessionNames) (opener : List ClockStep) (lane : ℕ) (parts : List Part) →
    AreParts names opener lane parts → Follow Part (labels_in names.script lane) (MayFollow names opener lane) parts
lane_follow names opener lane [] are = tt
lane_follow names opener lane (part ∷ parts) are = (lane_follow names opener lane parts are.0, are.1)

pub lane_are : (names : SessionNames) (opener : List ClockStep) (lane : ℕ) (parts : List Part) →
    Follow Part (labels_in names.script lane) (MayFollow names opener lane) parts → AreParts names opener lane parts
lane_are names opener lane [] are = tt
lane_are names opener lane (part ∷ parts) are = (lane_are names opener lane parts are.0, are.1)

worker_follow : (script : ScriptModel) (opener : List ClockStep) (parts : List WorkerPart) →
    AreWorkerParts script opener parts → Follow WorkerPart labels_worker (MayFollowStopped script opener) parts
worker_follow script opener [] are = tt
worker_follow script opener (part ∷ parts) are = (worker_follow script opener parts are.0, are.1)

opener_follow : (script : ScriptModel) (lists : ℕ → List ClockStep) (parts : List OpenerPart) →
    AreOpenerParts script lists parts → Follow OpenerPart opener_labels (MayFollowOpened script lists) parts
opener_follow script lists [] are = tt
opener_follow script lists (part ∷ parts) are = (opener_follow script lists parts are.0, are.1)

-- These are the labels of all numbers: they make the steps and the entries of each
pub record AreLabels (names : SessionNames) (logs : LogsView) (labels : ℕ → List Labelled) : Type 0 where
  pub steps : (n : ℕ) → steps_in (labels n) ≡ logs.lists n
  pub entries : (n : ℕ) → entries_in (labels n) ≡ entries_of logs n
  pub lanes : (lane : ℕ) → lane < lane_count names.script →
      AreMadeOf Part (labels_in names.script lane) (MayFollow names (logs.lists (opener_seat names.script)) lane) (labels lane)
  pub workers : (n : ℕ) → IsWorkerSeat names.script n →
      AreMadeOf WorkerPart labels_worker (MayFollowStopped names.script (logs.lists (opener_seat names.script))) (labels n)
  pub opener : AreMadeOf OpenerPart opener_labels (MayFollowOpened names.script logs.lists) (labels (opener_seat names.script))
  pub others : (n : ℕ) → opener_seat names.script < n → labels n ≡ []
  -- what a lane missed first is what its parts did
  pub missed : (lane : ℕ) (within : lane < lane_count names.script) →
      missed_by logs lane ≡ first_missed (lanes lane within).parts

-- What holds of the labels of each part among these holds of each label among all of its number
module _ (names : SessionNames) (logs : LogsView) (labels : ℕ → List Labelled) (are : AreLabels names logs labels)
    (Q : ℕ → List Labelled → Labelled → Type 0)
    (more_behind : (n : ℕ) (xs ys : List Labelled) (label : Labelled) → Q n xs label → Q n (xs ++ ys) label)
    (more_before : (n : ℕ) (xs ys : List Labelled) (label : Labelled) → Q n ys label → Q n (xs ++ ys) label)
    (of_lane : (lane : ℕ) → lane < lane_count names.script → (earlier : List Part) (part : Part) →
    MayFollow names (logs.lists (opener_seat names.script)) lane earlier part →
    Every (Q lane (labels_in names.script lane part)) (labels_in names.script lane part))
    (of_worker : (n : ℕ) → IsWorkerSeat names.script n → (earlier : List WorkerPart) (part : WorkerPart) →
    MayFollowStopped names.script (logs.lists (opener_seat names.script)) earlier part →
    Every (Q n (labels_worker part)) (labels_worker part))
    (of_opener : (earlier : List OpenerPart) (part : OpenerPart) →
    MayFollowOpened names.script logs.lists earlier part →
    Every (Q (opener_seat names.script) (opener_labels part)) (opener_labels part)) where
  of_parts : (P : Type 0) (made : P → List Labelled) (May : List P → P → Type 0) (n : ℕ) →
      ((earlier : List P) (part : P) → May earlier part → Every (Q n (made part)) (made part)) →
      AreMadeOf P made May (labels n) → (i : ℕ) (label : Labelled) → get_elem? (labels n) i ≡ some label →
      Q n (labels n) label
  of_parts P made May n each parts i label at =
      subst (λ xs. Q n xs label) (sym parts.are)
      (every_at (Q n (all_made P made parts.parts)) (all_made P made parts.parts)
      (every_among P made May (Q n) (more_behind n) (more_before n) each parts.parts parts.follow) i label
      (subst (λ xs. get_elem? xs i ≡ some label) parts.are at))

  pub each_among : (n i : ℕ) (label : Labelled) → get_elem? (labels n) i ≡ some label → Q n (labels n) label
  each_among n i label at = elim (cases_lt n (lane_count names.script)) [
    | inl lane ↦
        of_parts Part (labels_in names.script n) (MayFollow names (logs.lists (opener_seat names.script)) n) n (of_lane n lane)
        (are.lanes n lane) i label at
    | inr behind ↦ elim (cases_lt n (opener_seat names.script)) [
      | inl before ↦
          of_parts WorkerPart labels_worker (MayFollowStopped names.script (logs.lists (opener_seat names.script))) n
          (of_worker n (record { behind = behind; before = before }))
          (are.workers n (record { behind = behind; before = before })) i label at
      | inr beyond ↦ elim (cases_eq n (opener_seat names.script)) [
        | inl is ↦
            subst (λ n. Q n (labels n) label) (sym is)
            (of_parts OpenerPart opener_labels (MayFollowOpened names.script logs.lists) (opener_seat names.script) of_opener
            are.opener i label (subst (λ n. get_elem? (labels n) i ≡ some label) is at))
        | inr isnt ↦
            absurd (some-ne-none label
            (sym (subst (λ xs. get_elem? xs i ≡ some label) (are.others n (omega (arith, beyond, isnt))) at)))
      ]
    ]
  ]

-- and so what holds of each by itself
module _ (names : SessionNames) (logs : LogsView) (labels : ℕ → List Labelled) (are : AreLabels names logs labels)
    (Q : ℕ → Labelled → Type 0)
    (of_lane : (lane : ℕ) → lane < lane_count names.script → (earlier : List Part) (part : Part) →
    MayFollow names (logs.lists (opener_seat names.script)) lane earlier part →
    Every (Q lane) (labels_in names.script lane part))
    (of_worker : (n : ℕ) → IsWorkerSeat names.script n → (earlier : List WorkerPart) (part : WorkerPart) →
    MayFollowStopped names.script (logs.lists (opener_seat names.script)) earlier part → Every (Q n) (labels_worker part))
    (of_opener : (earlier : List OpenerPart) (part : OpenerPart) →
    MayFollowOpened names.script logs.lists earlier part → Every (Q (opener_seat names.script)) (opener_labels part)) where
  pub each_seated : (n i : ℕ) (label : Labelled) → get_elem? (labels n) i ≡ some label → Q n label
  each_seated =
      each_among names logs labels are (λ n xs label. Q n label) (λ n xs ys label is. is) (λ n xs ys label is. is) of_lane
      of_worker of_opener

-- where that it is a worker's doesn't matter
module _ (names : SessionNames) (logs : LogsView) (labels : ℕ → List Labelled) (are : AreLabels names logs labels)
    (Q : ℕ → Labelled → Type 0)
    (of_lane : (lane : ℕ) → lane < lane_count names.script → (earlier : List Part) (part : Part) →
    MayFollow names (logs.lists (opener_seat names.script)) lane earlier part →
    Every (Q lane) (labels_in names.script lane part))
    (of_worker : (n : ℕ) (earlier : List WorkerPart) (part : WorkerPart) →
    MayFollowStopped names.script (logs.lists (opener_seat names.script)) earlier part → Every (Q n) (labels_worker part))
    (of_opener : (earlier : List OpenerPart) (part : OpenerPart) →
    MayFollowOpened names.script logs.lists earlier part → Every (Q (opener_seat names.script)) (opener_labels part)) where
  pub each_label : (n i : ℕ) (label : Labelled) → get_elem? (labels n) i ≡ some label → Q n label
  each_label = each_seated names logs labels are Q of_lane (λ n seat earlier part may. of_worker n earlier part may) of_opener

-- a step by itself neither draws nor gets a place
pub plain_label : (names : SessionNames) (logs : LogsView) (labels : ℕ → List Labelled) → AreLabels names logs labels →
    (n i : ℕ) (label : Labelled) → get_elem? (labels n) i ≡ some label → IsPlain label
plain_label names logs labels are =
    each_label names logs labels are (λ n label. IsPlain label)
    (λ lane within earlier part may. part_plain names (logs.lists (opener_seat names.script)) lane earlier part may)
    (λ n earlier part may. worker_plain names.script (logs.lists (opener_seat names.script)) earlier part may)
    (λ earlier part may. opener_plain names.script logs.lists earlier part may)

-- beyond the numbers of a history there is no step
under_none : (guards seats : ℕ) (es : List ClockEvent) → IsSoundHistory guards seats es → (n : ℕ) → seats ≤ n →
    steps_under n es ≡ []
under_none guards seats [] sound n beyond = refl
under_none guards seats (e ∷ es) sound n beyond =
    under_other es n e.by e.step (λ is. let within = sound.1 in absurd (omega (arith, within, is, beyond)))
    ∙ under_none guards seats es sound.0 n beyond

module _ (names : SessionNames) (logs : LogsView) (logged : AreLogs names logs) where
  abbrev seat : ℕ
  seat = opener_seat names.script

  abbrev labels_by : (n : ℕ) → (n < lane_count names.script) ⊎ (lane_count names.script ≤ n) → (n < seat) ⊎ (seat ≤ n) →
      (n ≡ seat) ⊎ (n ≢ seat) → List Labelled
  labels_by n (inl lane) before is = labels_of names.script n (logged.lanes n lane).parts
  labels_by n (inr behind) (inl before) is =
      labels_of_worker (logged.workers n (record { behind = behind; before = before })).parts
  labels_by n (inr behind) (inr beyond) (inl is) = labels_of_opener logged.opener.parts
  labels_by n (inr behind) (inr beyond) (inr isnt) = []

  pub labels_under : ℕ → List Labelled
  labels_under n = labels_by n (cases_lt n (lane_count names.script)) (cases_lt n seat) (cases_eq n seat)

  -- what each number's list makes, whatever it is
  module _ (n : ℕ) (lane : (n < lane_count names.script) ⊎ (lane_count names.script ≤ n)) (before : (n < seat) ⊎ (seat ≤ n))
      (is : (n ≡ seat) ⊎ (n ≢ seat)) where
    nothing_beyond : seat ≤ n → n ≢ seat → logs.lists n ≡ []
    nothing_beyond beyond isnt =
        let cells : length (cells_of names.script) ≡ lane_count names.script =
        length-map-range_with_len (cells_on names.script) 0 (length (lane_list names.script)) in
        logged.closed.all n
        ∙ under_none names.script.guards (length (cells_of names.script) + worker_count names.script + 1)
        logged.closed.history logged.closed.sound n (omega (arith, cells, beyond, isnt))

    steps_by : steps_in (labels_by n lane before is) ≡ logs.lists n
    steps_by = elim lane as (λ lane. steps_in (labels_by n lane before is) ≡ logs.lists n) [
      | inl lane ↦ sym (logged.lanes n lane).steps
      | inr behind ↦ elim before as (λ before. steps_in (labels_by n (inr behind) before is) ≡ logs.lists n) [
        | inl before ↦ sym (logged.workers n (record { behind = behind; before = before })).steps
        | inr beyond ↦ elim is as (λ is. steps_in (labels_by n (inr behind) (inr beyond) is) ≡ logs.lists n) [
          | inl is ↦ sym logged.opener.steps ∙ ap logs.lists (sym is)
          | inr isnt ↦ sym (nothing_beyond beyond isnt)
        ]
      ]
    ]

    entries_by : entries_in (labels_by n lane before is) ≡ entries_of logs n
    entries_by = elim lane as (λ lane. entries_in (labels_by n lane before is) ≡ entries_of logs n) [
      | inl lane ↦ sym (logged.lanes n lane).shown
      | inr behind ↦ elim before as (λ before. entries_in (labels_by n (inr behind) before is) ≡ entries_of logs n) [
        | inl before ↦ sym (logged.workers n (record { behind = behind; before = before })).shown
        | inr beyond ↦ elim is as (λ is. entries_in (labels_by n (inr behind) (inr beyond) is) ≡ entries_of logs n) [
          | inl is ↦ sym logged.opener.shown ∙ ap (entries_of logs) (sym is)
          | inr isnt ↦ sym (get_or_past logs.entries n [] (omega (arith, logged.count, beyond, isnt)))
        ]
      ]
    ]

    abbrev lane_by : n < lane_count names.script →
        AreMadeOf Part (labels_in names.script n) (MayFollow names (logs.lists seat) n) (labels_by n lane before is)
    lane_by within = elim lane as (λ lane.
        AreMadeOf Part (labels_in names.script n) (MayFollow names (logs.lists seat) n) (labels_by n lane before is)) [
          | inl lane ↦
              record {
                parts = (logged.lanes n lane).parts;
                follow = lane_follow names (logs.lists seat) n (logged.lanes n lane).parts (logged.lanes n lane).are;
                are = lane_made names.script n (logged.lanes n lane).parts;
              }
          | inr behind ↦ absurd (omega (arith, within, behind))
        ]

    worker_by : IsWorkerSeat names.script n →
        AreMadeOf WorkerPart labels_worker (MayFollowStopped names.script (logs.lists seat)) (labels_by n lane before is)
    worker_by worker = elim lane as (λ lane.
        AreMadeOf WorkerPart labels_worker (MayFollowStopped names.script (logs.lists seat)) (labels_by n lane before is)) [
          | inl lane ↦ absurd (omega (arith, worker.behind, lane))
          | inr behind ↦ elim before as (λ before.
              AreMadeOf WorkerPart labels_worker (MayFollowStopped names.script (logs.lists seat)) (labels_by n (inr behind) before is)) [
                | inl before ↦
                    let log = logged.workers n (record { behind = behind; before = before }) in
                    record { parts = log.parts; follow = worker_follow names.script (logs.lists seat) log.parts log.are; are = worker_made log.parts }
                | inr beyond ↦ absurd (omega (arith, worker.before, beyond))
              ]
        ]

    opener_by : n ≡ seat →
        AreMadeOf OpenerPart opener_labels (MayFollowOpened names.script logs.lists) (labels_by n lane before is)
    opener_by same = elim lane as (λ lane.
        AreMadeOf OpenerPart opener_labels (MayFollowOpened names.script logs.lists) (labels_by n lane before is)) [
          | inl lane ↦ absurd (omega (arith, same, lane))
          | inr behind ↦ elim before as (λ before.
              AreMadeOf OpenerPart opener_labels (MayFollowOpened names.script logs.lists) (labels_by n (inr behind) before is)) [
                | inl before ↦ absurd (omega (arith, same, before))
                | inr beyond ↦ elim is as (λ is.
                    AreMadeOf OpenerPart opener_labels (MayFollowOpened names.script logs.lists)
                    (labels_by n (inr behind) (inr beyond) is)) [
                      | inl is ↦
                          record {
                            parts = logged.opener.parts;
                            follow = opener_follow names.script logs.lists logged.opener.parts logged.opener.are;
                            are = opener_made logged.opener.parts;
                          }
                      | inr isnt ↦ absurd (isnt same)
                    ]
              ]
        ]

    others_by : seat < n → labels_by n lane before is ≡ []
    others_by after = elim lane as (λ lane. labels_by n lane before is ≡ []) [
      | inl lane ↦ absurd (omega (arith, after, lane))
      | inr behind ↦ elim before as (λ before. labels_by n (inr behind) before is ≡ []) [
        | inl before ↦ absurd (omega (arith, after, before))
        | inr beyond ↦ elim is as (λ is. labels_by n (inr behind) (inr beyond) is ≡ []) [
          | inl is ↦ absurd (omega (arith, after, is))
          | inr isnt ↦ refl
        ]
      ]
    ]

  missed_of : (n : ℕ) (lane : (n < lane_count names.script) ⊎ (lane_count names.script ≤ n)) (before : (n < seat) ⊎ (seat ≤ n))
      (is : (n ≡ seat) ⊎ (n ≢ seat)) (within : n < lane_count names.script) →
      missed_by logs n ≡ first_missed (lane_by n lane before is within).parts
  missed_of n (inl lane) before is within = (logged.lanes n lane).first
  missed_of n (inr behind) before is within = absurd (omega (arith, within, behind))

  -- so all numbers have their labels
  pub are_labels : AreLabels names logs labels_under
  unfolding labels_under
  are_labels = record {
    steps = λ n. steps_by n (cases_lt n (lane_count names.script)) (cases_lt n seat) (cases_eq n seat);
    entries = λ n. entries_by n (cases_lt n (lane_count names.script)) (cases_lt n seat) (cases_eq n seat);
    lanes = λ n. lane_by n (cases_lt n (lane_count names.script)) (cases_lt n seat) (cases_eq n seat);
    workers = λ n. worker_by n (cases_lt n (lane_count names.script)) (cases_lt n seat) (cases_eq n seat);
    opener = opener_by seat (cases_lt seat (lane_count names.script)) (cases_lt seat seat) (cases_eq seat seat) refl;
    others = λ n. others_by n (cases_lt n (lane_count names.script)) (cases_lt n seat) (cases_eq n seat);
    missed = λ n. missed_of n (cases_lt n (lane_count names.script)) (cases_lt n seat) (cases_eq n seat);
  }
