-- The next step of the one history: which part of its number it stands in, and that it leaves other lanes as they are.
use Rattle.std.proofs.Common.{◌≡◌, ◌≢◌, ℕ, suc, ◌+◌, ◌<◌, ◌≤◌, true, List, [], ◌∷◌, ◌++◌, Some, inl, inr, length, refl, sym, ap, subst, ◌∙◌, arith, length-append}
use Rattle.std.proofs.lemmas.Bool.{cases_eq, cases_lt}
use Rattle.std.proofs.lemmas.List.{map-append}
use mathlib.Core.Option.{some, some-injective, some-ne-none}
use lib.ListN.{get_elem?}
use Rattle.asio_types.specs.declared.event.Event.{Event}
use Rattle.asio_types.specs.declared.event.Event.TheVariants as event
use Rattle.asio_types.specs.declared.number.Lane.{Lane}
use Rattle.session_script.specs.Script.{ScriptModel, is_op}
use Rattle.session_script.specs.Lanes.{lane_of}
use Rattle.session_script.specs.WellFormed.{IsWellFormed}
use Rattle.strand_core.specs.Execution.{events_of}
use Rattle.lane_clock.specs.declared.found.Change.{Change}
use Rattle.lane_clock.specs.declared.found.Change.TheVariants as change
use Rattle.lane_clock.specs.declared.found.Found.{Found}
use Rattle.lane_clock.specs.declared.step.ClockStep.{ClockStep}
use Rattle.lane_clock.specs.declared.step.ClockStep.TheVariants.{Look}
use Rattle.lane_clock.specs.History.{ClockEvent, IsSoundHistory, steps_under}
use Rattle.lane_clock.proofs.MomentLemmas.{Tail, sound_tail, tail_more}
use Rattle.lane_map.specs.LaneNumbers.{home_lane, lane_number, reactor_lane}
use Rattle.lane_logs.specs.declared.log.LogEntry.{LogEntry}
use Rattle.lane_logs.specs.Labels.{Labelled, entries_in, events_in, shows, silent}
use Rattle.lane_logs.specs.LaneLog.{MayFollow}
use Rattle.lane_logs.specs.Logs.{AreLogs, LogsView, session_layout}
use Rattle.lane_logs.specs.Names.{IsNamedMark, SessionNames}
use Rattle.lane_logs.specs.OpenerLog.{MayFollowOpened, OpenerPart, opener_labels}
use Rattle.lane_logs.specs.Parts.{ExecutedPart, Part, executed, labels_in}
use Rattle.lane_logs.specs.SeatNumbers.{IsWorkerSeat, lane_count, opener_seat}
use Rattle.lane_logs.specs.WorkerLog.{MayFollowStopped, WorkerPart}
use Rattle.lane_logs.proofs.LabelLemmas.{entries-append}
use Rattle.history_merge.proofs.AskLemmas.{IsNoDrop}
use Rattle.history_merge.proofs.BodyLaneLemmas.{AreOwn, IsOwn, execution_is_own}
use Rattle.history_merge.proofs.DrawnLemmas.{drawn_shown}
use Rattle.history_merge.proofs.EventOrderLemmas.{IsOffLane}
use Rattle.history_merge.proofs.HistoryLemmas.{AreLabelled, IsLabelled, are_labelled, label_of, shown_by}
use Rattle.history_merge.proofs.LabellingLemmas.{AreLabels, plain_label}
use Rattle.history_merge.proofs.LaneOfLemmas.{lanes_size}
use Rattle.history_merge.proofs.NextLeftLemmas.{GoesOnBy, NextLeft, events_by, execution_first, head_is, next_left}
use Rattle.history_merge.proofs.NoteLemmas.{IsNoted, IsNotedOp, noted_op, seen}
use Rattle.history_merge.proofs.OffLaneLemmas.{IsOffAll, OffLabel, opener_off, own_alive, own_off, turn_alive, turn_off, worker_off}
use Rattle.history_merge.proofs.PartLemmas.{IsMadeAt, all_made, at_left, at_right, every_at, every_made, follows_at, labels_worker, made-append, made_at}
use Rattle.history_merge.proofs.SoLemmas.{IsSo, state_so}
use Rattle.history_merge.proofs.StageLemmas.{left_behind, parts_of}
use Rattle.history_merge.proofs.TimeLemmas.{made_of}
use Rattle.history_merge.proofs.ToldLemmas.{on_turn}

-- a label of a part stands at its index among all
pub part_label : (P : Type 0) (made : P → List Labelled) (later : List P) (part : P) (earlier : List P) (j : ℕ) →
    j < length (made part) →
    get_elem? (all_made P made (later ++ part ∷ earlier)) (length (all_made P made earlier) + j) ≡ get_elem? (made part) j
part_label P made later part earlier j less =
    let more = made-append P made later (part ∷ earlier) in
    let before = all_made P made earlier in
    let k : ℕ = length (all_made P made earlier) + j in
    let size : length (all_made P made earlier ++ made part) ≡ length (all_made P made earlier) + length (made part) =
    length-append (all_made P made earlier) (made part) in
    ap (λ xs. get_elem? xs (length (all_made P made earlier) + j)) more.1
    ∙ (at_left (all_made P made earlier ++ made part) more.0 (length (all_made P made earlier) + j) (omega (arith, size, less))
    ∙ at_right (all_made P made earlier) (made part) (length (all_made P made earlier) + j) j refl)

-- a label that shows something doesn't stand first in an execution's part
pub behind_look : (script : ScriptModel) (lane : ℕ) (part : ExecutedPart) (shown : Event) (changes : Change) (found : Found)
    (label : Labelled) (before after : List Labelled) → labels_in script lane (executed part) ≡ before ++ label ∷ after →
    label ≡ shows shown changes found → 1 ≤ length before
behind_look script lane part shown changes found label [] after are is =
    absurd (let same : silent (Look lane part.place (Some part.note)) ≡ label =
    some-injective _ label (ap (λ xs. get_elem? xs 0) are) in
    let wrong : silent (Look lane part.place (Some part.note)) ≡ shows shown changes found = same ∙ is in
    cc)
behind_look script lane part shown changes found label (x ∷ before) after are is = omega arith

events-append : (xs ys : List Labelled) → events_by (xs ++ ys) ≡ events_by xs ++ events_by ys
events-append xs ys =
    ap events_in (entries-append xs ys) ∙ map-append (λ (entry : LogEntry). entry.event) (entries_in xs) (entries_in ys)

some_event : (one two : Event) → one ∷ [] ≡ two ∷ [] → one ≡ two
some_event one two same = some-injective one two (ap (λ xs. get_elem? xs 0) same)

own_at : (script : ScriptModel) (lane : Lane) (xs : List Event) (shown : Event) (ys : List Event) →
    AreOwn script lane (xs ++ shown ∷ ys) → IsOwn script lane shown
own_at script lane [] shown ys own = own.0
own_at script lane (x ∷ xs) shown ys own = own_at script lane xs shown ys own.1

module _ (names : SessionNames) (well : IsWellFormed names.script) (logs : LogsView) (labels : ℕ → List Labelled)
    (logged : AreLogs names logs) (are : AreLabels names logs labels) where
  abbrev script : ScriptModel
  script = names.script

  abbrev opener : List ClockStep
  opener = logs.lists (opener_seat names.script)

  abbrev pub seats : ℕ
  seats = (session_layout names.script).seats

  -- the history up to a step is sound, and all its steps have their labels
  pub sound_to : (es : List ClockEvent) → Tail es logged.closed.history → IsSoundHistory names.script.guards seats es
  sound_to es tail = sound_tail names.script.guards seats es logged.closed.history tail logged.closed.sound

  pub labelled_to : (es : List ClockEvent) → Tail es logged.closed.history → AreLabelled labels es
  labelled_to es tail =
      are_labelled labels logged.closed.history (λ n. are.steps n ∙ logged.closed.all n) (plain_label names logs labels are) es tail

  pub reactor_within : reactor_lane names.script < lane_count names.script
  reactor_within = let size = lanes_size names.script well in omega (arith, size)

  -- The step that comes next
  module _ (e : ClockEvent) (es : List ClockEvent) (tail : Tail (e ∷ es) logged.closed.history) where
    abbrev pub label : Labelled
    label = label_of labels es e

    pub is_labelled : IsLabelled labels es e
    is_labelled = (labelled_to (e ∷ es) tail).1

    -- stands in a part of its lane
    pub record IsNextOf (n : ℕ) (within : n < lane_count names.script) : Type 0 where
      pub at : IsMadeAt Part (labels_in names.script n) (parts_of names logs labels are n within) (length (steps_under n es)) label
      pub may : MayFollow names opener n at.earlier at.part

    pub next_of : (n : ℕ) → e.by ≡ n → (within : n < lane_count names.script) → IsNextOf n within
    next_of n by within =
        let made = are.lanes n within in
        let there : get_elem? (labels n) (length (steps_under n es)) ≡ some label =
        subst (λ n. get_elem? (labels n) (length (steps_under n es)) ≡ some label) by is_labelled.there in
        let at =
        made_at Part (labels_in names.script n) made.parts (length (steps_under n es)) label
        (subst (λ xs. get_elem? xs (length (steps_under n es)) ≡ some label) made.are there) in
        record {
          at = at;
          may =
              follows_at Part (labels_in names.script n) (MayFollow names opener n) made.parts (length (steps_under n es)) label at
              made.follow;
        }

    -- what an execution shows behind its begin is its lane's own
    pub goes_own : (n : ℕ) (part : ExecutedPart) (earlier : List Part) (was now : List Labelled) →
        MayFollow names opener n earlier (executed part) → (goes : GoesOnBy part label was now) →
        IsOwn names.script (lane_of names.script part.note.op) goes.shown
    goes_own n part earlier was now may goes = by_first goes.first goes.among goes.some
      where
        by_first : (first : List Labelled) → part.labels ≡ first ++ label ∷ now → 1 ≤ length first →
            IsOwn names.script (lane_of names.script part.note.op) goes.shown
        by_first [] among some_first = absurd (omega (arith, some_first))
        by_first (f ∷ rest) among some_first =
            let begin : Event = event.Begin part.note.op part.note.code part.note.size in
            let first_of =
            execution_first names.script (IsNamedMark names) part.note.op part.note.code part.note.size part.calls part.labels
            may.whole may.drawn in
            let head : f ≡ shows (event.Begin part.note.op part.note.code part.note.size) change.Same first_of.found =
            head_is f (shows (event.Begin part.note.op part.note.code part.note.size) change.Same first_of.found)
            (rest ++ label ∷ now) first_of.more (sym among ∙ first_of.is) in
            let all : events_by part.labels
            ≡ event.Begin part.note.op part.note.code part.note.size ∷ (events_by rest ++ goes.shown ∷ events_by now) =
            ap events_by among
            ∙ (events-append (f ∷ rest) (label ∷ now)
            ∙ (ap (λ x. events_by (x ∷ rest) ++ events_by (label ∷ now)) head
            ∙ ap (λ x.
            event.Begin part.note.op part.note.code part.note.size ∷ (events_by rest ++ events_by (x ∷ now))) goes.is)) in
            let whole : events_of names.script part.calls
            ≡ event.Begin part.note.op part.note.code part.note.size ∷ (events_by rest ++ goes.shown ∷ events_by now) =
            sym (drawn_shown names.script may.drawn) ∙ all in
            own_at names.script (lane_of names.script part.note.op) (events_by rest) goes.shown (events_by now)
            (execution_is_own names.script well (IsNamedMark names) (lane_of names.script part.note.op) part.note.op
            part.note.code part.note.size part.calls (events_by rest ++ goes.shown ∷ events_by now) refl may.whole whole)

    module _ (so : IsSo names logs labels are es) where
      abbrev so_far : Tail es logged.closed.history
      so_far = tail_more es e logged.closed.history tail

      -- an execution that has shown something is of an operation of the lane
      pub executing_op : (n : ℕ) (by : e.by ≡ n) (within : n < lane_count names.script) → n < reactor_lane names.script →
          (next : IsNextOf n within) (part : ExecutedPart) → next.at.part ≡ executed part →
          (shown : Event) (changes : Change) (found : Found) → label ≡ shows shown changes found →
          IsNoted names logs labels are reactor_within es n part.place part.note
          × IsNotedOp names logs labels are reactor_within n part.note.op
      executing_op n by within below next part is shown changes found shows_it =
          let made = are.lanes n within in
          let at = next.at in
          let labels_are : labels_in names.script n (executed part) ≡ at.before ++ label ∷ at.after =
          subst (λ part. labels_in names.script n part ≡ at.before ++ label ∷ at.after) is at.labels_are in
          let some_before =
          behind_look names.script n part shown changes found label at.before at.after labels_are shows_it in
          let looks : get_elem? (labels n) (length (all_made Part (labels_in names.script n) at.earlier) + 0)
          ≡ some (silent (Look n part.place (Some part.note))) =
          ap (λ xs. get_elem? xs (length (all_made Part (labels_in names.script n) at.earlier) + 0))
          (made.are ∙ ap (all_made Part (labels_in names.script n)) at.parts_are)
          ∙ (part_label Part (labels_in names.script n) at.later at.part at.earlier 0
          (subst (λ part. 0 < length (labels_in names.script n part)) (sym is) (omega arith))
          ∙ ap (λ part. get_elem? (labels_in names.script n part) 0) is) in
          let look =
          made_of labels es (labelled_to es so_far) n (length (all_made Part (labels_in names.script n) at.earlier) + 0)
          (silent (Look n part.place (Some part.note))) looks (omega (arith, at.index, some_before)) in
          let noted =
          seen names logs labels are reactor_within names.script.guards seats es (sound_to es so_far) (labelled_to es so_far) n n
          part.place part.note look.0 in (
            noted,
            noted_op names logs labels are reactor_within well es (labelled_to es so_far) (state_so names logs labels are es).context
                so.dates n part.place part.note (λ same. absurd (omega (arith, same, below))) noted,
          )

      -- What it shows is of no other lane's handler, and destroys none
      pub record IsOffOthers (shown : Event) : Type 0 where
        pub off : (o : ℕ) → is_op names.script o ≡ true → home_lane names.script o ≢ e.by →
            IsOffLane names.script (lane_of names.script o) shown
        pub alive : IsNoDrop shown

      own_others : (p : ℕ) → home_lane names.script p ≡ e.by → (shown : Event) →
          IsOwn names.script (lane_of names.script p) shown → IsOffOthers shown
      own_others p home shown own = record {
        off = λ o op other.
            own_off names.script (lane_of names.script p) (lane_of names.script o) shown own
            (λ same. other (sym (ap (lane_number names.script) same) ∙ home));
        alive = own_alive names.script (lane_of names.script p) shown own;
      }

      all_others : (shown : Event) → IsOffAll names.script shown → IsOffOthers shown
      all_others shown all = record { off = λ o op other. all.off (lane_of names.script o); alive = all.alive }

      handler_others : (within : e.by < lane_count names.script) → e.by < reactor_lane names.script → (shown : Event)
          (changes : Change) (found : Found) → label ≡ shows shown changes found → IsOffOthers shown
      handler_others within below shown changes found is =
          let next = next_of e.by refl within in
          by_next next
          (next_left names opener e.by below (parts_of names logs labels are e.by within) (length (steps_under e.by es)) label
          next.at next.may)
        where
          by_next : (next : IsNextOf e.by within) →
              NextLeft names opener e.by next.at.earlier next.at.part label
              (left_behind names.script e.by (parts_of names logs labels are e.by within) (length (steps_under e.by es)))
              (left_behind names.script e.by (parts_of names logs labels are e.by within) (suc (length (steps_under e.by es)))) →
              IsOffOthers shown
          by_next next (inl passes) =
              absurd (let wrong : shown ∷ [] ≡ [] = sym (ap shown_by is) ∙ passes.nothing in cc)
          by_next next (inr (in_execution, inl goes)) =
              let op =
              (executing_op e.by refl within below next in_execution.executes in_execution.is shown changes found is).1 in
              let same : goes.shown ≡ shown =
              some_event goes.shown shown (sym (ap shown_by goes.is) ∙ ap shown_by is) in
              own_others in_execution.executes.note.op op.home shown
              (subst (IsOwn names.script (lane_of names.script in_execution.executes.note.op)) same
              (goes_own e.by in_execution.executes next.at.earlier _ _ in_execution.may goes))
          by_next next (inr (in_execution, inr begins)) =
              let op =
              (executing_op e.by refl within below next in_execution.executes in_execution.is shown changes found is).1 in
              let note = in_execution.executes.note in
              let same : event.Begin note.op note.code note.size ≡ shown =
              some_event (event.Begin note.op note.code note.size) shown (sym (ap shown_by begins.is) ∙ ap shown_by is) in
              subst IsOffOthers same (record {
                off = λ o is_o other.
                    λ on. other (sym (ap (lane_number names.script) on) ∙ op.home);
                alive = tt;
              })

      reactor_others : e.by ≡ reactor_lane names.script → (shown : Event) (changes : Change) (found : Found) →
          label ≡ shows shown changes found → IsOffOthers shown
      reactor_others by shown changes found is =
          let there : get_elem? (labels (reactor_lane names.script)) (length (steps_under (reactor_lane names.script) es))
          ≡ some (shows shown changes found) =
          subst (λ n. get_elem? (labels n) (length (steps_under n es)) ≡ some (shows shown changes found)) by
          (is_labelled.there ∙ ap some is) in
          let turns =
          on_turn names logs labels are reactor_within (length (steps_under (reactor_lane names.script) es)) shown changes found
          there in
          record { off = λ o op other. turn_off names.script (lane_of names.script o) shown turns; alive = turn_alive shown turns }

      off_label : OffLabel names.script label → (shown : Event) (changes : Change) (found : Found) →
          label ≡ shows shown changes found → IsOffOthers shown
      off_label off shown changes found is = all_others shown (subst (OffLabel names.script) is off)

      worker_others : IsWorkerSeat names.script e.by → OffLabel names.script label
      worker_others worker =
          let made = are.workers e.by worker in
          every_at (OffLabel names.script) (all_made WorkerPart labels_worker made.parts)
          (every_made WorkerPart labels_worker (MayFollowStopped names.script opener) (OffLabel names.script)
          (worker_off names.script well opener) made.parts made.follow) (length (steps_under e.by es)) label
          (subst (λ xs. get_elem? xs (length (steps_under e.by es)) ≡ some label) made.are is_labelled.there)

      opener_others : e.by ≡ opener_seat names.script → OffLabel names.script label
      opener_others by =
          every_at (OffLabel names.script) (all_made OpenerPart opener_labels are.opener.parts)
          (every_made OpenerPart opener_labels (MayFollowOpened names.script logs.lists) (OffLabel names.script)
          (opener_off names.script well logs.lists) are.opener.parts are.opener.follow)
          (length (steps_under (opener_seat names.script) es)) label
          (subst (λ xs. get_elem? xs (length (steps_under (opener_seat names.script) es)) ≡ some label) are.opener.are
          (subst (λ n. get_elem? (labels n) (length (steps_under n es)) ≡ some label) by is_labelled.there))

      pub off_others : (shown : Event) (changes : Change) (found : Found) → label ≡ shows shown changes found →
          IsOffOthers shown
      off_others shown changes found is = elim (cases_lt e.by (lane_count names.script)) [
        | inl within ↦ elim (cases_lt e.by (reactor_lane names.script)) [
          | inl below ↦ handler_others within below shown changes found is
          | inr beyond ↦
              let size = lanes_size names.script well in
              reactor_others (omega (arith, size, within, beyond)) shown changes found is
        ]
        | inr behind ↦ elim (cases_lt e.by (opener_seat names.script)) [
          | inl before ↦
              off_label (worker_others (record { behind = behind; before = before })) shown changes found is
          | inr beyond ↦ elim (cases_eq e.by (opener_seat names.script)) [
            | inl by ↦ off_label (opener_others by) shown changes found is
            | inr other ↦
                absurd (some-ne-none label
                (sym (subst (λ xs. get_elem? xs (length (steps_under e.by es)) ≡ some label)
                (are.others e.by (omega (arith, beyond, other))) is_labelled.there)))
          ]
        ]
      ]
