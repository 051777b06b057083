-- A full cell was put; and but for the reactor's, each put stands behind the place that its act got.
use Rattle.std.proofs.Common.{◌≡◌, ◌≢◌, ℕ, zero, suc, Bool, true, false, cond, List, [], ◌∷◌, ◌++◌, inl, inr, map, refl, sym, subst, ◌∙◌, arith}
use Rattle.std.specs.Prelude.{Some, ◌&&◌, ◌==◌, nat_lt, slice_index}
use Rattle.std.proofs.lemmas.Bool.{and_parts, cases_eq, cases_lt, eqb-true}
use mathlib.Core.Option.{some, some-injective, some-ne-none}
use lib.ListN.{get_elem?}
use Rattle.session_script.specs.Script.{ScriptModel}
use Rattle.strand_core.specs.declared.posted.Posted.{Posted}
use Rattle.lane_clock.specs.declared.note.Note.{Note}
use Rattle.lane_clock.specs.declared.step.ClockStep.{ClockStep}
use Rattle.lane_clock.specs.declared.step.ClockStep.TheVariants.{Draw, Load, Place, Put, Look, Join}
use Rattle.lane_clock.specs.History.{ClockEvent, cell_after, cell_with}
use Rattle.lane_clock.proofs.MomentLemmas.{Tail}
use Rattle.lane_map.specs.LaneNumbers.{asked_lane, cells_of, reactor_lane}
use Rattle.lane_logs.specs.Labels.{AreDrawn, IsDrawn, Labelled, allots, begins, call_note, dispatches, ends, none_drawn, one_drawn, posts, returns, shows, silent, stops_context}
use Rattle.lane_logs.specs.LaneLog.{IsIdleStep, MayFollow}
use Rattle.lane_logs.specs.Logs.{LogsView}
use Rattle.lane_logs.specs.Names.{SessionNames}
use Rattle.lane_logs.specs.OpenerLog.{IsRestingStep, Looked, MayFollowOpened, OpenerPart, closed, look_label, opened, opener_labels, resting, restarted}
use Rattle.lane_logs.specs.Parts.{Part, executed, failed, idle, labels_in, missing, turned}
use Rattle.lane_logs.specs.SeatNumbers.{lane_count, opener_seat}
use Rattle.lane_logs.specs.WorkerLog.{MayFollowStopped, WorkerPart, stopped, waiting}
use Rattle.history_merge.proofs.LabellingLemmas.{AreLabels, AreMadeOf}
use Rattle.history_merge.proofs.PartLemmas.{Follow, all_made, labels_worker}

-- the step that put a note into a cell
pub record IsPutIn (es : List ClockEvent) (lane place : ℕ) (note : Note) : Type 0 where
  pub e : ClockEvent
  pub older : List ClockEvent
  pub tail : Tail (e ∷ older) es
  pub step : e.step ≡ Put lane place note

module _ (lane place : ℕ) (note : Note) where
  put_later : (e : ClockEvent) (es : List ClockEvent) → IsPutIn es lane place note → IsPutIn (e ∷ es) lane place note
  put_later e es put = record { e = put.e; older = put.older; tail = inr put.tail; step = put.step }

  module _ (e : ClockEvent) (es : List ClockEvent)
      (before : cell_after lane place es ≡ Some note → IsPutIn (e ∷ es) lane place note) where
    by_test : (at p : ℕ) (other : Note) (here : Bool) → ((lane == at) && (place == p)) ≡ here → e.step ≡ Put at p other →
        cond here (Some other) (cell_after lane place es) ≡ Some note → IsPutIn (e ∷ es) lane place note
    by_test at p other true here is full =
        let parts = and_parts (lane == at) (place == p) here in
        let same : other ≡ note = cc in
        record {
          e = e;
          older = es;
          tail = inl refl;
          step = is ∙ (λ i. Put (sym (eqb-true lane at parts.0) i) (sym (eqb-true place p parts.1) i) (same i));
        }
    by_test at p other false here is full = before full

    by_step : (step : ClockStep) → e.step ≡ step → cell_with lane place step (cell_after lane place es) ≡ Some note →
        IsPutIn (e ∷ es) lane place note
    by_step (Draw shown changes found) is full = before full
    by_step (Load found) is full = before full
    by_step (Place at p) is full = before full
    by_step (Put at p other) is full = by_test at p other ((lane == at) && (place == p)) refl is full
    by_step (Look at p held) is full = before full
    by_step (Join counts) is full = before full

  -- a full cell was put
  pub cell_put : (es : List ClockEvent) → cell_after lane place es ≡ Some note → IsPutIn es lane place note
  cell_put [] full = absurd (cc)
  cell_put (e ∷ es) full = by_step e es (λ full. put_later e es (cell_put es full)) e.step refl full

-- a put stands behind the place that the call of its act got
pub record IsBehind (last : Labelled) (lane place : ℕ) (note : Note) : Type 0 where
  pub allotted : last ≡ allots note.op lane place
  pub called : note ≡ call_note note.op

abbrev pub PutAfter : Labelled → Labelled → Type 0
PutAfter last (silent (Draw shown changes found)) = Unit {0}
PutAfter last (silent (Load found)) = Unit {0}
PutAfter last (silent (Place lane place)) = Unit {0}
PutAfter last (silent (Put lane place note)) = IsBehind last lane place note
PutAfter last (silent (Look lane place held)) = Unit {0}
PutAfter last (silent (Join counts)) = Unit {0}
PutAfter last (shows shown changes found) = Unit {0}
PutAfter last (allots act lane place) = Unit {0}

abbrev pub PutsBehind : Labelled → List Labelled → Type 0
PutsBehind last [] = Unit {0}
PutsBehind last (label ∷ labels) = PutAfter last label × PutsBehind label labels

behind-append : (xs ys : List Labelled) (last : Labelled) → PutsBehind last xs → ((last : Labelled) → PutsBehind last ys) →
    PutsBehind last (xs ++ ys)
behind-append [] ys last first second = second last
behind-append (x ∷ xs) ys last first second = (first.0, behind-append xs ys x first.1 second)

pub behind_at : (labels : List Labelled) (last : Labelled) → PutsBehind last labels → (i : ℕ) (lane place : ℕ) (note : Note) →
    get_elem? labels (suc i) ≡ some (silent (Put lane place note)) →
    (label : Labelled) × (get_elem? labels i ≡ some label) × IsBehind label lane place note
behind_at [] last all i lane place note at = absurd (some-ne-none (silent (Put lane place note)) (sym at))
behind_at (x ∷ []) last all i lane place note at = absurd (some-ne-none (silent (Put lane place note)) (sym at))
behind_at (x ∷ (y ∷ labels)) last all zero lane place note at =
    (x, refl, subst (PutAfter x) (some-injective y (silent (Put lane place note)) at) all.1.0)
behind_at (x ∷ (y ∷ labels)) last all (suc i) lane place note at = behind_at (y ∷ labels) x all.1 i lane place note at

module _ (script : ScriptModel) where
  put_behind : (within : Bool) (act lane place : ℕ) →
      PutsBehind (allots act lane place) (cond within (silent (Put lane place (call_note act)) ∷ []) [])
  put_behind true act lane place = (record { allotted = refl; called = refl }, tt)
  put_behind false act lane place = tt

  call_behind : {made : Posted} {labels : List Labelled} → IsDrawn script made labels → (last : Labelled) →
      PutsBehind last labels
  call_behind begins last = (tt, tt)
  call_behind (posts {act} {place} {found} isnt outside) last =
      (tt, (tt, put_behind (nat_lt place (slice_index (cells_of script) (asked_lane script act))) act _ place))
  call_behind (dispatches isnt within) last = (tt, tt)
  call_behind (stops_context is) last = (tt, (tt, tt))
  call_behind returns last = (tt, tt)
  call_behind ends last = (tt, tt)

  calls_behind : {calls : List Posted} {labels : List Labelled} → AreDrawn script calls labels → (last : Labelled) →
      PutsBehind last labels
  calls_behind none_drawn last = tt
  calls_behind (one_drawn {calls} {call = one} {labels} {made} before now) last =
      behind-append labels made last (calls_behind before last) (λ last. call_behind now last)

  resting_behind : (step : ClockStep) → IsRestingStep step → (last : Labelled) → PutsBehind last (silent step ∷ [])
  resting_behind (Draw shown changes found) rests last = absurd rests
  resting_behind (Load found) rests last = (tt, tt)
  resting_behind (Place lane place) rests last = absurd rests
  resting_behind (Put lane place note) rests last = absurd rests
  resting_behind (Look lane place held) rests last = (tt, tt)
  resting_behind (Join counts) rests last = (tt, tt)

  looks_behind : (looks : List Looked) (last : Labelled) → PutsBehind last (map look_label looks)
  looks_behind [] last = tt
  looks_behind (look ∷ looks) last = (tt, looks_behind looks (look_label look))

  opener_behind : (lists : ℕ → List ClockStep) (earlier : List OpenerPart) (part : OpenerPart) →
      MayFollowOpened script lists earlier part → (last : Labelled) → PutsBehind last (opener_labels part)
  opener_behind lists earlier (resting step) may last = resting_behind step may last
  opener_behind lists earlier (opened calls labels) may last = calls_behind may.drawn last
  opener_behind lists earlier (restarted drawn) may last = (tt, tt)
  opener_behind lists earlier (closed part) may last =
      (tt, behind-append (map look_label part.looks) _ (silent (Load part.load)) (looks_behind part.looks _) (λ last. (tt, tt)))

  worker_behind : (opener : List ClockStep) (earlier : List WorkerPart) (part : WorkerPart) →
      MayFollowStopped script opener earlier part → (last : Labelled) → PutsBehind last (labels_worker part)
  worker_behind opener earlier (waiting step) may last = resting_behind step may last
  worker_behind opener earlier (stopped drawn) may last = (tt, tt)

module _ (names : SessionNames) (opener : List ClockStep) (lane : ℕ) (away : lane ≢ reactor_lane names.script) where
  idle_behind : (earlier : List Part) (step : ClockStep) → IsIdleStep names opener lane earlier step → (last : Labelled) →
      PutsBehind last (silent step ∷ [])
  idle_behind earlier (Draw shown changes found) is last = absurd is
  idle_behind earlier (Load found) is last = (tt, tt)
  idle_behind earlier (Place at place) is last = absurd is
  idle_behind earlier (Put at place note) is last = absurd is
  idle_behind earlier (Look at place held) is last = (tt, tt)
  idle_behind earlier (Join counts) is last = (tt, tt)

  lane_behind : (earlier : List Part) (part : Part) → MayFollow names opener lane earlier part → (last : Labelled) →
      PutsBehind last (labels_in names.script lane part)
  lane_behind earlier (idle step) may last = idle_behind earlier step may last
  lane_behind earlier (executed part) may last = (tt, (tt, calls_behind names.script may.drawn _))
  lane_behind earlier (turned part) may last = absurd (away may.reactor)
  lane_behind earlier (failed part) may last = absurd (away may.reactor)
  lane_behind earlier (missing place note) may last = (tt, tt)

-- so it is of all labels of a number that isn't the reactor's
module _ (names : SessionNames) (logs : LogsView) (labels : ℕ → List Labelled) (are : AreLabels names logs labels) where
  parts_behind : (P : Type 0) (made : P → List Labelled) (May : List P → P → Type 0) →
      ((earlier : List P) (part : P) → May earlier part → (last : Labelled) → PutsBehind last (made part)) →
      (parts : List P) → Follow P made May parts → (last : Labelled) → PutsBehind last (all_made P made parts)
  parts_behind P made May each [] all last = tt
  parts_behind P made May each (part ∷ parts) all last =
      behind-append (all_made P made parts) (made part) last (parts_behind P made May each parts all.0 last)
      (λ last. each parts part all.1 last)

  made_behind : (P : Type 0) (made : P → List Labelled) (May : List P → P → Type 0) (n : ℕ) →
      ((earlier : List P) (part : P) → May earlier part → (last : Labelled) → PutsBehind last (made part)) →
      AreMadeOf P made May (labels n) → (last : Labelled) → PutsBehind last (labels n)
  made_behind P made May n each parts last =
      subst (PutsBehind last) (sym parts.are) (parts_behind P made May each parts.parts parts.follow last)

  pub puts_behind : (n : ℕ) → n ≢ reactor_lane names.script → (last : Labelled) → PutsBehind last (labels n)
  puts_behind n away last = elim (cases_lt n (lane_count names.script)) [
    | inl lane ↦
        made_behind Part (labels_in names.script n) (MayFollow names (logs.lists (opener_seat names.script)) n) n
        (lane_behind names (logs.lists (opener_seat names.script)) n away) (are.lanes n lane) last
    | inr behind ↦ elim (cases_lt n (opener_seat names.script)) [
      | inl before ↦
          made_behind WorkerPart labels_worker (MayFollowStopped names.script (logs.lists (opener_seat names.script))) n
          (worker_behind names.script (logs.lists (opener_seat names.script)))
          (are.workers n (record { behind = behind; before = before })) last
      | inr beyond ↦ elim (cases_eq n (opener_seat names.script)) [
        | inl is ↦
            subst (λ n. PutsBehind last (labels n)) (sym is)
            (made_behind OpenerPart opener_labels (MayFollowOpened names.script logs.lists) (opener_seat names.script)
            (opener_behind names.script logs.lists) are.opener last)
        | inr isnt ↦ subst (PutsBehind last) (sym (are.others n (omega (arith, beyond, isnt)))) tt
      ]
    ]
  ]
