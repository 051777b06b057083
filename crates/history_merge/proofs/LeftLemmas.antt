-- What is left of an execution ends by its end; so where nothing runs and nothing waits inside its call, no lane is in an
-- execution, and no call is open.
use Rattle.std.proofs.Common.{◌≡◌, ◌⊎◌, ℕ, zero, suc, ◌+◌, ◌-◌, ◌<◌, Bool, true, false, cond, List, [], ◌∷◌, ◌++◌, None, Some, inl, inr, length, drop, refl, sym, ap, subst, ◌∙◌, arith, length-append}
use Rattle.std.specs.Prelude.{IsSomeAnd, nat_lt}
use Rattle.std.proofs.lemmas.List.{map-append}
use Rattle.std.proofs.lemmas.Option.{slice_get_within}
use Rattle.asio_types.specs.declared.code.Code.{Code}
use Rattle.asio_types.specs.Code.{class_of_code}
use Rattle.asio_types.specs.declared.event.Event.{Event}
use Rattle.asio_types.specs.declared.event.Event.TheVariants as event
use Rattle.asio_types.specs.declared.number.Lane.{Lane}
use Rattle.session_script.specs.Lanes.{is_inline, lane_of}
use Rattle.session_script.specs.Script.{Place, ScriptModel, is_op, opening_of, parent_of}
use Rattle.session_script.specs.WellFormed.{IsWellFormed}
use Rattle.history_rules.specs.declared.phase.ActPhase.{ActPhase}
use Rattle.history_rules.specs.declared.phase.ActPhase.TheVariants as phase
use Rattle.history_rules.specs.declared.phase.ActState.{ActState}
use Rattle.history_rules.specs.declared.phase.Step.{Step}
use Rattle.history_rules.specs.Calls.{IsNextOf, body_at, is_open, progressed}
use Rattle.history_rules.specs.Executions.{MayBegin}
use Rattle.history_rules.specs.Legal.{IsLegalFrom, after_event}
use Rattle.history_rules.specs.Rounds.{is_running}
use Rattle.history_rules.specs.State.{ContextState, State, call_at, phase_at}
use Rattle.execution_laws.specs.Ready.{is_ready}
use Rattle.execution_laws.specs.Rest.{waits_inside}
use Rattle.strand_core.specs.declared.posted.Posted.{Posted}
use Rattle.strand_core.specs.declared.posted.Posted.TheVariants as posted
use Rattle.lane_clock.specs.History.{ClockEvent, steps_under}
use Rattle.lane_clock.specs.declared.found.Change.TheVariants as change
use Rattle.lane_clock.specs.declared.found.Found.{Found}
use Rattle.lane_clock.specs.declared.step.ClockStep.{ClockStep}
use Rattle.lane_map.specs.LaneNumbers.{home_lane}
use Rattle.lane_map.proofs.RankLemmas.{op_within}
use Rattle.lane_logs.specs.declared.log.LogEntry.{LogEntry}
use Rattle.lane_logs.specs.Labels.{AreDrawn, IsDrawn, Labelled, begins, dispatches, ends, entries_in, events_in, none_drawn, one_drawn, posts, returns, shows, stops_context}
use Rattle.lane_logs.specs.LaneLog.{MayFollow}
use Rattle.lane_logs.specs.Logs.{LogsView}
use Rattle.lane_logs.specs.Names.{SessionNames}
use Rattle.lane_logs.specs.Parts.{Part, executed, failed, idle, labels_in, missing, turned}
use Rattle.lane_logs.specs.SeatNumbers.{lane_count, opener_seat}
use Rattle.lane_logs.proofs.LabelLemmas.{entries-append}
use Rattle.history_merge.specs.Among.{IsPlaceOn, LaneIsIdle, is_underway}
use Rattle.history_merge.proofs.AlikeLemmas.{is_executed, is_not, never}
use Rattle.history_merge.proofs.AmongLemmas.{IsGoing, going_ends, not_underway}
use Rattle.history_merge.proofs.BodyLaneLemmas.{AreOwn}
use Rattle.history_merge.proofs.EachActLemmas.{Each, act_in}
use Rattle.history_merge.proofs.LabellingLemmas.{AreLabels}
use Rattle.history_merge.proofs.LaneOfLemmas.{caller_op, home_counted}
use Rattle.history_merge.proofs.PartLemmas.{Follow, all_made}
use Rattle.history_merge.proofs.SoLemmas.{IsSo, state_so}
use Rattle.history_merge.proofs.StageLemmas.{left_behind, left_of, parts_of}
use Rattle.history_merge.proofs.StillLemmas.{runs_in, runs_to_end}
use Rattle.history_merge.proofs.TestLemmas.{IsSame, back_same, stop_same}

-- the last of a list
abbrev last_of : {A : Type 0} → A → List A → A
last_of d [] = d
last_of d (x ∷ xs) = last_of x xs

last-append : {A : Type 0} → (d : A) (xs : List A) (x : A) → last_of d (xs ++ x ∷ []) ≡ x
last-append d [] x = refl
last-append d (y ∷ xs) x = last-append y xs x

last_same : {A : Type 0} → (xs ys : List A) (x y : A) → xs ++ x ∷ [] ≡ ys ++ y ∷ [] → x ≡ y
last_same xs ys x y same = sym (last-append x xs x) ∙ (ap (last_of x) same ∙ last-append x ys y)

-- what stands behind the first elements is nothing, or has the same last
record EndsIn {A : Type 0} (x : A) (xs : List A) : Type 0 where
  front : List A
  is : xs ≡ front ++ x ∷ []

drop_none : {A : Type 0} → (k : ℕ) → drop {A = A} k [] ≡ []
drop_none zero = refl
drop_none (suc k) = refl

behind_last : {A : Type 0} → (k : ℕ) (front : List A) (x : A) →
    (drop k (front ++ x ∷ []) ≡ []) ⊎ EndsIn x (drop k (front ++ x ∷ []))
behind_last zero front x = inr (record { front = front; is = refl })
behind_last (suc k) [] x = inl (drop_none k)
behind_last (suc k) (y ∷ front) x = behind_last k front x

-- the label of an end
abbrev IsEndOf : Posted → List Labelled → Type 0
IsEndOf (posted.End op ran) made =
    (mark : ℕ) × (found : Found) × (made ≡ shows (event.End op mark) change.Down found ∷ [])
IsEndOf _ made = Unit {0}

module _ (script : ScriptModel) where
  is_end_of : {call : Posted} {made : List Labelled} → IsDrawn script call made → IsEndOf call made
  is_end_of begins = tt
  is_end_of (posts isnt outside) = tt
  is_end_of (dispatches isnt within) = tt
  is_end_of (stops_context is) = tt
  is_end_of returns = tt
  is_end_of (ends {op} {ran} {found}) = (ran.mark, found, refl)

  record LastDrawn (call : Posted) (labels : List Labelled) : Type 0 where
    front : List Labelled
    made : List Labelled
    drawn : IsDrawn script call made
    is : labels ≡ front ++ made

  last_drawn : {all : List Posted} {labels : List Labelled} → AreDrawn script all labels → (front : List Posted)
      (call : Posted) → all ≡ front ++ call ∷ [] → LastDrawn call labels
  last_drawn none_drawn front call same =
      let size : 0 ≡ length front + 1 = ap length same ∙ length-append front (call ∷ []) in absurd (omega (arith, size))
  last_drawn (one_drawn {calls} {call = one} {labels} {made} before now) front call same = record {
    front = labels;
    made = made;
    drawn = subst (λ call. IsDrawn script call made) (last_same calls front one call same) now;
    is = refl;
  }

-- these events end an execution, or there are none
record EndsSo (events : List Event) : Type 0 where
  front : List Event
  op : ℕ
  mark : ℕ
  is : events ≡ front ++ event.End op mark ∷ []

events-append : (xs ys : List Labelled) →
    events_in (entries_in (xs ++ ys)) ≡ events_in (entries_in xs) ++ events_in (entries_in ys)
events-append xs ys = ap events_in (entries-append xs ys) ∙ map-append (λ (entry : LogEntry). entry.event) (entries_in xs) (entries_in ys)

abbrev NoneOrEnds : List Event → Type 0
NoneOrEnds events = (events ≡ []) ⊎ EndsSo events

module _ (op mark : ℕ) (found : Found) where
  abbrev end_label : Labelled
  end_label = shows (event.End op mark) change.Down found

  behind_so : (k : ℕ) (front labels : List Labelled) → labels ≡ front ++ end_label ∷ [] →
      NoneOrEnds (events_in (entries_in (drop k labels)))
  behind_so k front labels is =
      subst (λ xs. NoneOrEnds (events_in (entries_in (drop k xs)))) (sym is) (elim (behind_last k front end_label) [
        | inl none ↦ inl (ap (λ xs. events_in (entries_in xs)) none)
        | inr more ↦
            inr (record {
              front = events_in (entries_in more.front);
              op = op;
              mark = mark;
              is = ap (λ xs. events_in (entries_in xs)) more.is ∙ events-append more.front (end_label ∷ []);
            })
      ])

module _ (names : SessionNames) (opener : List ClockStep) (lane : ℕ) where
  part_so : (parts : List Part) (part : Part) → MayFollow names opener lane parts part → (i : ℕ) →
      NoneOrEnds (events_in (entries_in (left_of names.script lane part i)))
  part_so parts (idle step) may i = inl refl
  part_so parts (turned part) may i = inl refl
  part_so parts (failed part) may i = inl refl
  part_so parts (missing place note) may i = inl refl
  part_so parts (executed part) may i = by_test (nat_lt 2 i)
    where
      by_test : (b : Bool) → NoneOrEnds (events_in (entries_in (cond b (drop (i - 2) part.labels) [])))
      by_test true =
          let end : Posted =
          posted.End part.note.op
          (record { mark = may.whole.mark; class = class_of_code part.note.code; begun = may.whole.begun }) in
          let begin : Posted = posted.Begin part.note.op part.note.code part.note.size may.whole.begun in
          let last = last_drawn names.script may.drawn (begin ∷ may.whole.body) end may.whole.is in
          let made = is_end_of names.script last.drawn in
          behind_so part.note.op made.0 made.1 (i - 2) last.front part.labels
          (last.is ∙ ap (λ xs. last.front ++ xs) made.2)
      by_test false = inl refl

  left_so : (parts : List Part) → Follow Part (labels_in names.script lane) (MayFollow names opener lane) parts → (k : ℕ) →
      NoneOrEnds (events_in (entries_in (left_behind names.script lane parts k)))
  left_so [] follow k = inl refl
  left_so (part ∷ parts) follow k =
      let before : ℕ = length (all_made Part (labels_in names.script lane) parts) in
      by_test (nat_lt before k) (left_of names.script lane part (k - before)) (left_behind names.script lane parts k)
      (part_so parts part follow.1 (k - before)) (left_so parts follow.0 k)
    where
      by_test : (b : Bool) (xs ys : List Labelled) → NoneOrEnds (events_in (entries_in xs)) →
          NoneOrEnds (events_in (entries_in ys)) → NoneOrEnds (events_in (entries_in (cond b xs ys)))
      by_test true xs ys first second = first
      by_test false xs ys first second = second

-- where nothing is under way, and what executes inside its call isn't ready, none of these executions can end
record IsAside (script : ScriptModel) (s : ContextState) : Type 0 where
  under : (n : ℕ) → is_underway (phase_at s n) ≡ false
  unready : (n : ℕ) → is_inline script n ≡ true → is_ready (phase_at s n) ≡ false

underway_running : (of : ActPhase) → is_running of ≡ true → is_underway of ≡ true
underway_running (phase.Running class progress) is = refl
underway_running other is = absurd (cc)

underway_step : (step : Step) (of : ActPhase) → is_underway (progressed step of) ≡ is_underway of
underway_step step (phase.Running class progress) = refl
underway_step step other = refl

ready_step : (step : Step) (of : ActPhase) → is_ready (progressed step of) ≡ is_ready of
ready_step step (phase.Running class progress) = refl
ready_step step other = refl

underway_executed : (of : ActPhase) → is_underway of ≡ true → is_executed of ≡ true
underway_executed (phase.Running class progress) is = refl
underway_executed phase.Inside is = refl
underway_executed other is = absurd (cc)

module _ (script : ScriptModel) (told : Bool) (lane : Lane) where
  abbrev Nowhere : ℕ → Type 0
  Nowhere n = ⊥

  aside_on : (s : ContextState) (acts : List ActState) (t : ContextState) → t.acts ≡ acts →
      Each (IsSame (λ n of. is_underway of) Nowhere) s.acts acts →
      Each (IsSame (λ n of. is_ready of) Nowhere) s.acts acts → IsAside script s → IsAside script t
  aside_on s acts t is under ready aside = record {
    under = λ n.
        ap (λ (xs : List ActState). is_underway (act_in xs n).phase) is ∙ ((under n).same (λ never. never) ∙ aside.under n);
    unready = λ n inside.
        ap (λ (xs : List ActState). is_ready (act_in xs n).phase) is
        ∙ ((ready n).same (λ never. never) ∙ aside.unready n inside);
  }

  none_running : (s : ContextState) → IsAside script s → (n : ℕ) → is_running (phase_at s n) ≡ true → ⊥
  none_running s aside n runs =
      never (is_underway (phase_at s n)) (aside.under n) (underway_running (phase_at s n) runs)

  none_called_aside : (s : State) (a : ℕ) (place : Place) → IsAside script s.context → IsPlaceOn script lane place →
      IsSomeAnd (body_at script s.reactor.failed s.context place) (IsNextOf a) → ⊥
  none_called_aside s a None aside on may = on
  none_called_aside s a (Some at) aside on may =
      none_running s.context aside at.0 (runs_in script at.0 at.1 (phase_at s.context at.0) (IsNextOf a) may)

  none_begun_aside : (s : ContextState) (o : ℕ) (given : Code) (size : ℕ) → IsAside script s → is_inline script o ≡ true →
      MayBegin script s o given size → ⊥
  none_begun_aside s o given size aside inside (inl out) =
      never (is_ready (phase_at s o)) (aside.unready o inside) (ap is_ready out.ready.1)
  none_begun_aside s o given size aside inside (inr within) =
      never (is_underway (phase_at s o)) (aside.under o) (ap is_underway within.inside)

  none_ends : (s : State) (front : List Event) (op mark : ℕ) → IsAside script s.context →
      AreOwn script lane (front ++ event.End op mark ∷ []) →
      IsLegalFrom script told s (front ++ event.End op mark ∷ []) → ⊥
  none_ends s [] op mark aside own legal =
      none_running s.context aside op (runs_to_end script op (phase_at s.context op) legal.0)
  none_ends s (event.Call a ∷ front) op mark aside own legal =
      none_called_aside s a (parent_of script a) aside own.0 legal.0
  none_ends s (event.Stop (Some a) ∷ front) op mark aside own legal =
      let after : State = after_event script told s (event.Stop (Some a)) in
      none_ends after front op mark
      (aside_on s.context after.context.acts after.context refl
      (stop_same (λ n of. is_underway of) (λ n. underway_step) script s.context Nowhere a)
      (stop_same (λ n of. is_ready of) (λ n. ready_step) script s.context Nowhere a) aside) own.1 legal.1
  none_ends s (event.Back a ∷ front) op mark aside own legal =
      let after : State = after_event script told s (event.Back a) in
      none_ends after front op mark
      (aside_on s.context after.context.acts after.context refl
      (back_same (λ n of. is_underway of) (λ n. underway_step) script s.context Nowhere a)
      (back_same (λ n of. is_ready of) (λ n. ready_step) script s.context Nowhere a) aside) own.1 legal.1
  none_ends s (event.Begin o given size ∷ front) op mark aside own legal =
      none_begun_aside s.context o given size aside own.0.0 legal.0
  none_ends s (event.End o ended ∷ front) op mark aside own legal =
      none_running s.context aside o (runs_to_end script o (phase_at s.context o) legal.0)
  none_ends s (event.Stop None ∷ front) op mark aside own legal = own.0
  none_ends s (other ∷ front) op mark aside own legal = own.0

module _ (names : SessionNames) (well : IsWellFormed names.script) (logs : LogsView) (labels : ℕ → List Labelled)
    (are : AreLabels names logs labels) (es : List ClockEvent) (so : IsSo names logs labels are es)
    (still : (n : ℕ) → is_running (phase_at (state_so names logs labels are es).context n) ≡ false)
    (outside : (n : ℕ) → waits_inside (phase_at (state_so names logs labels are es).context n) ≡ false) where
  abbrev script : ScriptModel
  script = names.script

  abbrev s : State
  s = state_so names logs labels are es

  -- the lane of an operation is idle
  pub idle_lane : (o : ℕ) → is_op script o ≡ true → LaneIsIdle script (lane_of script o) s.context
  idle_lane o is =
      let within : home_lane script o < lane_count script = home_counted script well o (op_within script o is) in
      let going = so.going o is within in
      elim (left_so names (logs.lists (opener_seat script)) (home_lane script o) (parts_of names logs labels are (home_lane script o) within)
      (are.lanes (home_lane script o) within).follow
      (length (steps_under (home_lane script o) es))) [
        | inl none ↦
            going_ends script well names.told (lane_of script o) s.context
            (subst (λ left. IsGoing script names.told (lane_of script o) left s.context.acts) none going)
        | inr more ↦
            absurd (none_ends script names.told (lane_of script o) going.alone more.front more.op more.mark
            (record {
              under = λ n.
                  is_not (is_underway (phase_at going.alone.context n)) (λ under.
                  let alike = going.sees.each n in
                  never (is_underway (phase_at s.context n))
                  (not_underway (phase_at s.context n) (still n) (outside n))
                  (ap is_underway (alike.executed (underway_executed (phase_at going.alone.context n) under)) ∙ under));
              unready = λ n inside. (going.sees.each n).inline inside;
            })
            (subst (AreOwn script (lane_of script o)) more.is going.own)
            (subst (IsLegalFrom script names.told going.alone) more.is going.legal))
      ]

  -- where `open` is over no call is open
  module _ (opened : s.context.opening.back ≡ length (opening_of script)) where
    by_place : (n : ℕ) (place : Place) → parent_of script n ≡ place → is_open (call_at s.context n) ≡ true → ⊥
    by_place n None under open_now =
        let call = so.state.opens n under open_now in
        let less = slice_get_within (opening_of script) s.context.opening.back n call.at in
        omega (arith, less, opened)
    by_place n (Some at) under open_now =
        let idle = idle_lane at.0 (caller_op script well n at under) in
        never (is_open (call_at s.context n))
        (idle.back n (subst (IsPlaceOn script (lane_of script at.0)) (sym under) refl)) open_now

    pub none_open : (n : ℕ) → is_open (call_at s.context n) ≡ false
    none_open n = is_not (is_open (call_at s.context n)) (by_place n (parent_of script n) refl)
