-- The next step of the one history goes on with the execution of its lane, and leaves those of others.
use Rattle.std.proofs.Common.{◌≡◌, ◌≢◌, ℕ, suc, ◌+◌, ◌<◌, Bool, true, List, [], ◌∷◌, inl, inr, length, refl, sym, ap, subst, ◌∙◌, arith, length-append}
use Rattle.std.proofs.lemmas.Bool.{cases_eq}
use Rattle.asio_types.specs.declared.event.Event.{Event}
use Rattle.asio_types.specs.declared.event.Event.TheVariants as event
use Rattle.asio_types.specs.declared.number.Lane.{Lane}
use Rattle.op_handlers.specs.declared.call.Call.{Call}
use Rattle.session_script.specs.Script.{ScriptModel, is_op}
use Rattle.session_script.specs.Lanes.{lane_of}
use Rattle.session_script.specs.WellFormed.{IsWellFormed}
use Rattle.history_rules.specs.Executions.{MayBeginOutside}
use Rattle.history_rules.specs.Legal.{context_after}
use Rattle.history_rules.specs.State.{ContextState, State}
use Rattle.strand_core.specs.Execution.{AnyMark, AreCalls, IsWholeExecution, events_of, inside, no_act, outside}
use Rattle.strand_core.specs.declared.posted.Posted.{Posted}
use Rattle.asio_types.specs.declared.code.Code.{Code}
use Rattle.lane_clock.specs.declared.found.Change.{Change}
use Rattle.lane_clock.specs.declared.found.Change.TheVariants as change
use Rattle.lane_clock.specs.declared.found.Found.{Found}
use Rattle.lane_clock.specs.declared.step.ClockStep.{ClockStep}
use Rattle.lane_clock.specs.History.{ClockEvent, steps_under}
use Rattle.lane_clock.proofs.KnownLemmas.{under_other, under_same}
use Rattle.lane_clock.proofs.MomentLemmas.{Tail}
use Rattle.lane_map.specs.LaneNumbers.{home_lane, reactor_lane}
use Rattle.lane_map.proofs.RankLemmas.{op_within}
use Rattle.lane_logs.specs.Labels.{Labelled, allots, shows, silent}
use Rattle.lane_logs.specs.LaneLog.{MayFollow}
use Rattle.lane_logs.specs.Logs.{AreLogs, LogsView}
use Rattle.lane_logs.specs.Names.{IsNamedMark, SessionNames}
use Rattle.lane_logs.specs.Parts.{ExecutedPart, Part, executed}
use Rattle.lane_logs.specs.SeatNumbers.{lane_count, opener_seat}
use Rattle.history_merge.specs.Among.{LaneIsIdle}
use Rattle.history_merge.proofs.AmongLemmas.{IsGoing, going_begins, going_ends, going_legal, going_others, going_own}
use Rattle.history_merge.proofs.DrawnLemmas.{drawn_shown}
use Rattle.history_merge.proofs.EventOrderLemmas.{is_of_others}
use Rattle.history_merge.proofs.HistoryLemmas.{shown_by}
use Rattle.history_merge.proofs.LabellingLemmas.{AreLabels}
use Rattle.history_merge.proofs.LaneOfLemmas.{home_before, same_lane}
use Rattle.history_merge.proofs.NextLeftLemmas.{NextLeft, events_by, next_left}
use Rattle.history_merge.proofs.OrderlyLemmas.{IsExpected}
use Rattle.history_merge.proofs.SoFarLemmas.{MayShow, state_next, state_with}
use Rattle.history_merge.proofs.SoLemmas.{IsSo, state_so}
use Rattle.history_merge.proofs.StageLemmas.{left_at, left_behind, parts_of}
use Rattle.history_merge.proofs.StagedLemmas.{IsNextOf, executing_op, label, next_of, off_others}

-- whatever the marks, an execution is whole
any_calls : (script : ScriptModel) (HasMark : Call → ℕ → Type 0) {acts : List ℕ} {calls : List Posted} →
    AreCalls script HasMark acts calls → AreCalls script AnyMark acts calls
any_calls script HasMark no_act = no_act
any_calls script HasMark (outside {act} {acts} {calls} isnt more) = outside isnt (any_calls script HasMark more)
any_calls script HasMark (inside {act} {begun} {mark} {acts} {body} {calls} is marked inner more) =
    inside is tt (any_calls script HasMark inner) (any_calls script HasMark more)

any_whole : (script : ScriptModel) (HasMark : Call → ℕ → Type 0) (op : ℕ) (given : Code) (size : ℕ) (calls : List Posted) →
    IsWholeExecution script HasMark op given size calls → IsWholeExecution script AnyMark op given size calls
any_whole script HasMark op given size calls whole = record {
  begun = whole.begun;
  mark = whole.mark;
  body = whole.body;
  marked = tt;
  acts = any_calls script HasMark whole.acts;
  is = whole.is;
}

-- what a label shows is expected
abbrev pub IsExpectedLabel : ContextState → Labelled → Type 0
IsExpectedLabel s (silent step) = Unit {0}
IsExpectedLabel s (shows shown changes found) = IsExpected s shown
IsExpectedLabel s (allots act lane place) = Unit {0}

module _ (script : ScriptModel) (told : Bool) (s : State) (lane : Lane) (left : List Event) where
  -- a label that shows nothing leaves the state
  quiet_going : (l : Labelled) → shown_by l ≡ [] → IsGoing script told lane left s.context.acts →
      IsGoing script told lane left (state_with script told l s).context.acts
  quiet_going (silent step) none going = going
  quiet_going (allots act at place) none going = going
  quiet_going (shows shown changes found) none going = absurd (cc)

module _ (names : SessionNames) (well : IsWellFormed names.script) (logs : LogsView) (labels : ℕ → List Labelled)
    (logged : AreLogs names logs) (are : AreLabels names logs labels) (e : ClockEvent) (es : List ClockEvent)
    (tail : Tail (e ∷ es) logged.closed.history) (so : IsSo names logs labels are es) where
  abbrev script : ScriptModel
  script = names.script

  abbrev s : State
  s = state_so names logs labels are es

  abbrev next_label : Labelled
  next_label = label names well logs labels logged are e es tail

  abbrev Opener : List ClockStep
  Opener = logs.lists (opener_seat names.script)

  abbrev Left : (n : ℕ) → n < lane_count names.script → List Event
  Left n within = left_at names logs labels are es n within

  abbrev Then : (n : ℕ) → n < lane_count names.script → List Event
  Then n within = left_at names logs labels are (e ∷ es) n within

  abbrev Going : ℕ → List Event → State → Type 0
  Going o left t = IsGoing names.script names.told (lane_of names.script o) left t.context.acts

  later_length : length (steps_under e.by (e ∷ es)) ≡ suc (length (steps_under e.by es))
  later_length =
      ap length (under_same es e.by e.step)
      ∙ (length-append (steps_under e.by es) (e.step ∷ [])
      ∙ (let one : length (steps_under e.by es) + 1 ≡ suc (length (steps_under e.by es)) = omega arith in one))

  module _ (may : MayShow names.script names.told next_label s) (expected : IsExpectedLabel s.context next_label) where
    -- an operation on another lane
    other_going : (o : ℕ) → is_op names.script o ≡ true → (within : home_lane names.script o < lane_count names.script) →
        home_lane names.script o ≢ e.by → (l : Labelled) → next_label ≡ l → MayShow names.script names.told l s →
        IsExpectedLabel s.context l →
        Going o (Left (home_lane names.script o) within) (state_with names.script names.told l s)
    other_going o op within other (silent step) is may_show expects = so.going o op within
    other_going o op within other (allots act at place) is may_show expects = so.going o op within
    other_going o op within other (shows shown changes found) is may_show expects =
        going_others names.script well names.told (lane_of names.script o) s.context shown
        (Left (home_lane names.script o) within)
        (is_of_others names.script well names.told (lane_of names.script o) s shown so.state.order may_show expects
        ((off_others names well logs labels logged are e es tail so shown changes found is).off o op other))
        (so.going o op within)

    -- an operation on the lane that makes the step
    own_going : (o : ℕ) → is_op names.script o ≡ true → (within : home_lane names.script o < lane_count names.script) →
        e.by ≡ home_lane names.script o →
        (next : IsNextOf names well logs labels logged are e es tail (home_lane names.script o) within) →
        (was now : List Labelled) → Going o (events_by was) s →
        NextLeft names Opener (home_lane names.script o) next.at.earlier next.at.part next_label was now →
        Going o (events_by now) (state_with names.script names.told next_label s)
    own_going o op within by next was now going (inl passes) =
        subst (λ left. Going o left (state_with names.script names.told next_label s)) (sym passes.same)
        (quiet_going names.script names.told s (lane_of names.script o) (events_by was) next_label passes.nothing going)
    own_going o op within by next was now going (inr (in_execution, inl goes)) =
        subst (λ l. Going o (events_by now) (state_with names.script names.told l s)) (sym goes.is)
        (going_own names.script well names.told (lane_of names.script o) s.context goes.shown (events_by now)
        (subst (λ left. Going o left s) goes.left going))
    own_going o op within by next was now going (inr (in_execution, inr begins)) =
        let part = in_execution.executes in
        let below = home_before names.script well o op in
        let noted =
        (executing_op names well logs labels logged are e es tail so (home_lane names.script o) by within below next part
        in_execution.is (event.Begin part.note.op part.note.code part.note.size) change.Same begins.found begins.is).1 in
        let on : lane_of names.script part.note.op ≡ lane_of names.script o =
        same_lane names.script well part.note.op o noted.op_is op noted.home in
        let idle : LaneIsIdle names.script (lane_of names.script o) s.context =
        going_ends names.script well names.told (lane_of names.script o) s.context
        (subst (λ left. Going o left s) (ap events_by begins.none) going) in
        let whole : events_of names.script part.calls
        ≡ event.Begin part.note.op part.note.code part.note.size ∷ events_by now =
        sym (drawn_shown names.script in_execution.may.drawn)
        ∙ (ap events_by begins.own ∙ ap (λ x. events_by (x ∷ now)) begins.is) in
        subst (λ l. Going o (events_by now) (state_with names.script names.told l s)) (sym begins.is)
        (subst (λ lane. IsGoing names.script names.told lane (events_by now)
        (context_after names.script s.context (event.Begin part.note.op part.note.code part.note.size)).acts) on
        (going_begins names.script well names.told s.context part.note.op part.note.code part.note.size part.calls
        (events_by now) (op_within names.script part.note.op noted.op_is) so.state.order.size noted.unentered
        (subst (λ lane. LaneIsIdle names.script lane s.context) (sym on) idle)
        (any_whole names.script (IsNamedMark names) part.note.op part.note.code part.note.size part.calls
        in_execution.may.whole) whole))

    -- so it is behind the next step
    pub going_next : (o : ℕ) → is_op names.script o ≡ true →
        (within : home_lane names.script o < lane_count names.script) →
        Going o (Then (home_lane names.script o) within) (state_so names logs labels are (e ∷ es))
    going_next o op within =
        subst (Going o (Then (home_lane names.script o) within)) (sym (state_next names.script names.told labels e es))
        (elim (cases_eq (home_lane names.script o) e.by) [
          | inl is ↦
              let by : e.by ≡ home_lane names.script o = sym is in
              let next = next_of names well logs labels logged are e es tail (home_lane names.script o) by within in
              let later : length (steps_under (home_lane names.script o) (e ∷ es))
              ≡ suc (length (steps_under (home_lane names.script o) es)) =
              subst (λ n. length (steps_under n (e ∷ es)) ≡ suc (length (steps_under n es))) by later_length in
              subst (λ k.
              Going o
              (events_by (left_behind names.script (home_lane names.script o)
              (parts_of names logs labels are (home_lane names.script o) within) k))
              (state_with names.script names.told next_label s)) (sym later)
              (own_going o op within by next
              (left_behind names.script (home_lane names.script o)
              (parts_of names logs labels are (home_lane names.script o) within)
              (length (steps_under (home_lane names.script o) es)))
              (left_behind names.script (home_lane names.script o)
              (parts_of names logs labels are (home_lane names.script o) within)
              (suc (length (steps_under (home_lane names.script o) es)))) (so.going o op within)
              (next_left names Opener (home_lane names.script o) (home_before names.script well o op)
              (parts_of names logs labels are (home_lane names.script o) within)
              (length (steps_under (home_lane names.script o) es)) next_label next.at next.may))
          | inr other ↦
              subst (λ (steps : List ClockStep).
              Going o
              (events_by (left_behind names.script (home_lane names.script o)
              (parts_of names logs labels are (home_lane names.script o) within) (length steps)))
              (state_with names.script names.told next_label s))
              (sym (under_other es (home_lane names.script o) e.by e.step other))
              (other_going o op within other next_label refl may expected)
        ])

  -- What the next step of a lane on which handlers execute shows may happen, where the begin of an execution may
  pub staged_may : (n : ℕ) → (by : e.by ≡ n) → (within : n < lane_count names.script) → n < reactor_lane names.script →
      ((part : ExecutedPart) (earlier : List Part) →
      (next : IsNextOf names well logs labels logged are e es tail n within) → next.at.part ≡ executed part →
      next.at.earlier ≡ earlier → MayFollow names Opener n earlier (executed part) → (changes : Change) (found : Found) →
      next_label ≡ shows (event.Begin part.note.op part.note.code part.note.size) changes found →
      LaneIsIdle names.script (lane_of names.script part.note.op) s.context →
      MayBeginOutside names.script s.context part.note.op part.note.code part.note.size) →
      MayShow names.script names.told next_label s
  staged_may n by within below begin =
      let next = next_of names well logs labels logged are e es tail n by within in
      by_next next
      (left_behind names.script n (parts_of names logs labels are n within) (length (steps_under n es)))
      (left_behind names.script n (parts_of names logs labels are n within) (suc (length (steps_under n es)))) going_on
      (next_left names Opener n below (parts_of names logs labels are n within) (length (steps_under n es)) next_label next.at
      next.may)
    where
      quiet_may : (l : Labelled) → shown_by l ≡ [] → MayShow names.script names.told l s
      quiet_may (silent step) none = tt
      quiet_may (allots act at place) none = tt
      quiet_may (shows shown changes found) none = absurd (cc)

      by_lane : (p m : ℕ) → n ≡ m →
          ((inside : m < lane_count names.script) → Going p (left_at names logs labels are es m inside) s) →
          Going p
          (events_by (left_behind names.script n (parts_of names logs labels are n within) (length (steps_under n es)))) s
      by_lane p m same going =
          (subst (λ m.
          ((inside : m < lane_count names.script) → Going p (left_at names logs labels are es m inside) s)) (sym same) going)
          within

      going_on : (p : ℕ) → is_op names.script p ≡ true → home_lane names.script p ≡ n →
          Going p
          (events_by (left_behind names.script n (parts_of names logs labels are n within) (length (steps_under n es)))) s
      going_on p op home = by_lane p (home_lane names.script p) (sym home) (so.going p op)

      by_next : (next : IsNextOf names well logs labels logged are e es tail n within) → (was now : List Labelled) →
          ((p : ℕ) → is_op names.script p ≡ true → home_lane names.script p ≡ n → Going p (events_by was) s) →
          NextLeft names Opener n next.at.earlier next.at.part next_label was now →
          MayShow names.script names.told next_label s
      by_next next was now going (inl passes) = quiet_may next_label passes.nothing
      by_next next was now going (inr (in_execution, inl goes)) =
          let part = in_execution.executes in
          let noted =
          (executing_op names well logs labels logged are e es tail so n by within below next part in_execution.is goes.shown
          goes.changes goes.found goes.is).1 in
          subst (λ l. MayShow names.script names.told l s) (sym goes.is)
          (going_legal names.script well names.told (lane_of names.script part.note.op) s goes.shown (events_by now)
          (subst (λ left. Going part.note.op left s) goes.left (going part.note.op noted.op_is noted.home)))
      by_next next was now going (inr (in_execution, inr begins)) =
          let part = in_execution.executes in
          let noted =
          (executing_op names well logs labels logged are e es tail so n by within below next part in_execution.is
          (event.Begin part.note.op part.note.code part.note.size) change.Same begins.found begins.is).1 in
          let idle : LaneIsIdle names.script (lane_of names.script part.note.op) s.context =
          going_ends names.script well names.told (lane_of names.script part.note.op) s.context
          (subst (λ left. Going part.note.op left s) (ap events_by begins.none)
          (going part.note.op noted.op_is noted.home)) in
          subst (λ l. MayShow names.script names.told l s) (sym begins.is)
          (inl (begin part next.at.earlier next in_execution.is refl in_execution.may change.Same begins.found begins.is idle))
