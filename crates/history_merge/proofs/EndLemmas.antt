-- The whole history and the drops behind it: from what holds of the last state to what is to be shown of a merging.
use Rattle.std.proofs.Common.{◌≡◌, ◌≢◌, ℕ, zero, suc, ◌-◌, ◌<◌, ◌≤◌, Bool, true, false, cond, List, [], ◌∷◌, ◌++◌, inl, inr, ⊎_elim, filter, length, map, drop, refl, sym, ap, subst, ◌∙◌, arith, length-append}
use Rattle.std.specs.Prelude.{◌&&◌, ◌||◌, nat_lt, not}
use Rattle.std.specs.List.{list_any, range_with_len}
use Rattle.std.proofs.lemmas.Bool.{cases_lt}
use Rattle.std.proofs.lemmas.List.{get_or_past}
use Rattle.std.proofs.lemmas.List.Elements.{All-from_get_or}
use Rattle.std.proofs.lemmas.List.Folds.{list_any-append}
use Rattle.asio_types.specs.Faults.{most_faults}
use Rattle.asio_types.specs.declared.event.Event.{Event}
use Rattle.asio_types.specs.declared.event.Event.TheVariants as event
use Rattle.session_script.specs.Lanes.{lane_of}
use Rattle.session_script.specs.Script.{ScriptModel, is_op}
use Rattle.session_script.specs.WellFormed.{IsWellFormed}
use Rattle.history_rules.specs.declared.phase.ActPhase.{ActPhase}
use Rattle.history_rules.specs.declared.phase.ActPhase.TheVariants as phase
use Rattle.history_rules.specs.declared.phase.ActState.{ActState}
use Rattle.history_rules.specs.FromOutside.{has_fault, has_outside_stop, is_fault, is_outside_stop}
use Rattle.history_rules.specs.Legal.{IsLegalSoFar, IsWhole, MayHappen, reactor_after, state_from, state_of}
use Rattle.execution_laws.specs.Marks.{AreMarked, BeginsAt, IsToldMark}
use Rattle.op_handlers.specs.Marks.{own_marks}
use Rattle.history_rules.specs.Rounds.{IsOver, is_running, is_unspent}
use Rattle.history_rules.specs.State.{ReactorHalf, State, call_at, first_reactor, first_state, fresh, phase_at}
use Rattle.history_rules.specs.Time.{at_last, at_time}
use Rattle.execution_laws.specs.Kinds.{was_called}
use Rattle.execution_laws.specs.LetGo.{is_uninitiated}
use Rattle.execution_laws.proofs.EventLemmas.{legal-append, state_from-append}
use Rattle.execution_laws.proofs.ShownLemmas.{marks-append}
use Rattle.reactor_turns.proofs.ClockLemmas.{settled-clock, time-done}
use Rattle.lane_clock.specs.History.{ClockEvent, steps_under}
use Rattle.lane_clock.proofs.MomentLemmas.{tail_refl}
use Rattle.lane_map.specs.LaneNumbers.{home_lane, reactor_lane}
use Rattle.lane_map.proofs.RankLemmas.{op_within}
use Rattle.lane_logs.specs.declared.log.LogEntry.{LogEntry}
use Rattle.lane_logs.specs.Drops.{has_call, is_call_of, is_left, is_untouched}
use Rattle.lane_logs.specs.Half.{half_from, half_of}
use Rattle.lane_logs.specs.Labels.{Labelled, entries_in, events_in}
use Rattle.lane_logs.specs.LaneLog.{has_begun, is_begin_of}
use Rattle.lane_logs.specs.Logs.{AreLogs, LogsView, all_events, entries_of}
use Rattle.lane_logs.specs.Names.{SessionNames}
use Rattle.lane_logs.specs.Parts.{Part, executed, failed, idle, labels_in, missing, turned}
use Rattle.lane_logs.specs.SeatNumbers.{lane_count, opener_seat}
use Rattle.lane_logs.specs.Stand.{stand_of}
use Rattle.history_merge.specs.Among.{LaneIsIdle, is_underway}
use Rattle.history_merge.specs.Merging.{IsLegalMerging, IsMerging, MovesTimeIdly}
use Rattle.history_merge.proofs.AmongLemmas.{IsGoing, going_ends}
use Rattle.history_merge.proofs.BetweenLemmas.{take_whole}
use Rattle.history_merge.proofs.BeyondLemmas.{none_beyond}
use Rattle.history_merge.proofs.DroppedLemmas.{EndsWhole, drops_from, ends_whole}
use Rattle.history_merge.proofs.ExactLemmas.{left_exact, untouched_exact}
use Rattle.history_merge.proofs.FirstFaultLemmas.{is_other, reactor_silent}
use Rattle.history_merge.proofs.HalfLemmas.{half_is}
use Rattle.history_merge.proofs.HistoryLemmas.{AreLabelled, shown_in}
use Rattle.history_merge.proofs.LabellingLemmas.{AreLabels}
use Rattle.history_merge.proofs.LaneOfLemmas.{home_counted}
use Rattle.history_merge.proofs.MarkedLemmas.{has_marks, none_outside}
use Rattle.history_merge.proofs.MergedLemmas.{all_drawn, any_ordered, merged_is}
use Rattle.history_merge.proofs.MissingLemmas.{none_missing}
use Rattle.history_merge.proofs.PartLemmas.{all_made}
use Rattle.history_merge.proofs.RestingLemmas.{either_false, take_works}
use Rattle.history_merge.proofs.SaidLemmas.{begins_merged}
use Rattle.history_merge.proofs.SinceLemmas.{labelled_at, legal_last, made_all}
use Rattle.history_merge.proofs.SoLemmas.{IsSo, state_so}
use Rattle.history_merge.proofs.StoodLemmas.{has_stand}
use Rattle.history_merge.proofs.StageLemmas.{left_at, left_behind, left_of, parts_of}

-- Behind all labels of a lane nothing is left of an execution
drop_past : {A : Type 0} → (xs : List A) (k : ℕ) → length xs ≤ k → drop k xs ≡ []
drop_past [] zero all = refl
drop_past [] (suc k) all = refl
drop_past (x ∷ xs) zero all = absurd (omega (arith, all))
drop_past (x ∷ xs) (suc k) all = drop_past xs k (omega (arith, all))

nothing_by : (b : Bool) (xs ys : List Labelled) → xs ≡ [] → ys ≡ [] → cond b xs ys ≡ []
nothing_by true xs ys first second = first
nothing_by false xs ys first second = second

module _ (script : ScriptModel) (lane : ℕ) where
  part_behind : (part : Part) (i : ℕ) → length (labels_in script lane part) ≤ i → left_of script lane part i ≡ []
  part_behind (idle step) i all = refl
  part_behind (turned part) i all = refl
  part_behind (failed part) i all = refl
  part_behind (missing place note) i all = refl
  part_behind (executed part) i all =
      nothing_by (nat_lt 2 i) (drop (i - 2) part.labels) [] (drop_past part.labels (i - 2) (omega (arith, all))) refl

  all_behind : (parts : List Part) (k : ℕ) → length (all_made Part (labels_in script lane) parts) ≤ k →
      left_behind script lane parts k ≡ []
  all_behind [] k all = refl
  all_behind (part ∷ parts) k all =
      let before : ℕ = length (all_made Part (labels_in script lane) parts) in
      let size = length-append (all_made Part (labels_in script lane) parts) (labels_in script lane part) in
      nothing_by (nat_lt before k) (left_of script lane part (k - before)) (left_behind script lane parts k)
      (part_behind part (k - before) (omega (arith, all, size))) (all_behind parts k (omega (arith, all, size)))

-- a failure of the reactor shows in its half
module _ (script : ScriptModel) (told : Bool) where
  pub fails_after : (r : ReactorHalf) (shown : Event) → (reactor_after script told r shown).failed ≡ (is_fault shown || r.failed)
  fails_after r (event.Take a) = take_works script told r a
  fails_after r (event.Done o code size) = (time-done script r o).failed
  fails_after r (event.Tick now) = (settled-clock told (at_time script told now r)).failed
  fails_after r event.Last = (settled-clock told (at_last told r)).failed
  fails_after r event.Fault = refl
  fails_after r other = refl

  fails_from : (r : ReactorHalf) (entries : List LogEntry) →
      (r.failed || has_fault (events_in entries)) ≡ true → (half_from script told r entries).failed ≡ true
  fails_from r [] is = or_none r.failed is
    where
      or_none : (a : Bool) → (a || false) ≡ true → a ≡ true
      or_none true is = refl
      or_none false is = absurd (cc)
  fails_from r (entry ∷ entries) is =
      fails_from (reactor_after script told r entry.event) entries
      (ap (λ b. b || has_fault (events_in entries)) (fails_after r entry.event)
      ∙ by_bool r.failed (is_fault entry.event) (has_fault (events_in entries)) is)
    where
      by_bool : (a b c : Bool) → (a || (b || c)) ≡ true → ((b || a) || c) ≡ true
      by_bool true true c is = refl
      by_bool true false c is = refl
      by_bool false true c is = refl
      by_bool false false c is = is

unspent_under : (of : ActPhase) → is_unspent of ≡ false → is_underway of ≡ false
unspent_under (phase.Running class progress) isnt = absurd (cc)
unspent_under phase.Inside isnt = absurd (cc)
unspent_under other isnt = refl

under_running : (of : ActPhase) → is_underway of ≡ false → is_running of ≡ false
under_running (phase.Running class progress) isnt = absurd (cc)
under_running other isnt = refl

-- drops show the named drop marks, and no stop
drops_marked : (HasMark : ℕ → ℕ → Type 0) (drop : ℕ → ℕ) (xs : List ℕ) →
    AreMarked HasMark drop (map (λ op. event.Dropped op (drop op)) xs)
drops_marked HasMark drop [] = tt
drops_marked HasMark drop (x ∷ xs) = (refl, drops_marked HasMark drop xs)

drops_inner : (drop : ℕ → ℕ) (xs : List ℕ) → list_any is_outside_stop (map (λ op. event.Dropped op (drop op)) xs) ≡ false
drops_inner drop [] = refl
drops_inner drop (x ∷ xs) = drops_inner drop xs

-- each tick, and the last time point, of a legal history stands at an idle moment
moves_idly : (script : ScriptModel) (told : Bool) (events : List Event) → IsLegalSoFar script told events →
    MovesTimeIdly script told events
moves_idly script told events legal before after shown is moves =
    let here : MayHappen script told (state_of script told before) shown =
    (legal_last script told (first_state script told) before (shown ∷ after)
    (subst (IsLegalSoFar script told) is legal)).0 in
    ⊎_elim
    (λ (tick : (now : ℕ) × (shown ≡ event.Tick now)).
    let may = subst (MayHappen script told (state_of script told before)) tick.1 here in may.idle)
    (λ (last : shown ≡ event.Last).
    let may = subst (MayHappen script told (state_of script told before)) last here in may.idle) moves

module _ (names : SessionNames) (well : IsWellFormed names.script) (logs : LogsView) (events : List Event)
    (logged : AreLogs names logs) (merging : IsMerging logs events) (labels : ℕ → List Labelled)
    (are : AreLabels names logs labels) (so : IsSo names logs labels are logged.closed.history)
  where
    abbrev script : ScriptModel
    script = names.script

    abbrev whole : List ClockEvent
    whole = logged.closed.history

    abbrev s : State
    s = state_so names logs labels are whole

    abbrev all_shown : List Event
    all_shown = shown_in labels whole

    pub labelled : AreLabelled labels whole
    labelled = labelled_at names logs labels logged are whole (tail_refl whole)

    none_left : (lane : ℕ) (within : lane < lane_count script) → left_at names logs labels are whole lane within ≡ []
    none_left lane within =
        let size = made_all names logs labels logged are lane in
        let made = ap length (are.lanes lane within).are in
        ap (λ xs. events_in (entries_in xs))
        (all_behind script lane (parts_of names logs labels are lane within) (length (steps_under lane whole))
        (omega (arith, size, made)))

    -- so nothing is under way
    idle_at_end : (o : ℕ) → is_op script o ≡ true → LaneIsIdle script (lane_of script o) s.context
    idle_at_end o is =
        let within = home_counted script well o (op_within script o is) in
        going_ends script well names.told (lane_of script o) s.context
        (subst (λ left. IsGoing script names.told (lane_of script o) left s.context.acts) (none_left (home_lane script o) within)
        (so.going o is within))

    none_under : (n : ℕ) → is_underway (phase_at s.context n) ≡ false
    none_under n = by_kind (is_op script n) refl
      where
        by_kind : (b : Bool) → is_op script n ≡ b → is_underway (phase_at s.context n) ≡ false
        by_kind true is = (idle_at_end n is).quiet n refl
        by_kind false isnt = unspent_under (phase_at s.context n) ((so.state.kinds n).spent isnt)

    half_at_end : s.reactor ≡ half_of script names.told (entries_of logs (reactor_lane script))
    half_at_end =
        let n : ℕ = reactor_lane script in
        half_is names logs labels are whole labelled
        ∙ (ap (λ xs. half_of script names.told (entries_in xs))
        (take_whole (labels n) (length (steps_under n whole)) (made_all names logs labels logged are n))
        ∙ ap (half_of script names.told) (are.entries n))

    -- the session is over
    over : IsOver script s
    over =
        ⊎_elim
        (λ closed. inl
        ((has_stand names well logs labels logged are whole (tail_refl whole) labelled).closings
        ∙ (ap (λ steps. (stand_of script steps).closings) (sym (logged.closed.all (opener_seat script))) ∙ closed)))
        (λ failed. inr (
          ap (λ (r : ReactorHalf). r.failed) half_at_end
              ∙ fails_from script names.told (first_reactor script names.told) (entries_of logs (reactor_lane script)) failed,
          All-from_get_or (λ act. is_running act.phase ≡ false) s.context.acts fresh
              (λ n less. under_running (phase_at s.context n) (none_under n)),
        ))
        logged.over

    -- the handlers that are left are those that the logs say
    pub room : length all_shown < most_faults
    room =
        let size = all_drawn names logs labels logged are in
        let parts = logged.closed.parts in
        omega (arith, size, parts)

    same_any : (test : Event → Bool) → list_any test all_shown ≡ list_any test (all_events logs)
    same_any test =
        ap (list_any test) (sym (merged_is names logs labels logged are events merging))
        ∙ sym (any_ordered test logs.entries logs.last.clock merging.drawn merging.ordered)

    pub are_left : (n : ℕ) → is_unspent (phase_at s.context n) ≡ is_left names (all_events logs) n
    are_left n = elim (cases_lt n (length script.acts)) [
      | inl within ↦
          left_exact script well names.told all_shown room so.expected
          so.dates.undropped n within so.state.order so.state.kinds (none_under n)
          ∙ (ap (λ called. (is_op script n && called) && not (has_begun n all_shown)) (same_any (is_call_of n))
          ∙ ap (λ begun. (is_op script n && has_call n (all_events logs)) && not begun) (same_any (is_begin_of n)))
      | inr beyond ↦
          let size = so.state.order.size in
          let absent : is_unspent (phase_at s.context n) ≡ false =
          ap (λ (act : ActState). is_unspent act.phase) (get_or_past s.context.acts n fresh (omega (arith, beyond, size))) in
          absent ∙ sym (no_op (is_op script n) refl beyond)
    ]
      where
        no_op : (b : Bool) → is_op script n ≡ b → length script.acts ≤ n → is_left names (all_events logs) n ≡ false
        no_op true is beyond = let within = op_within script n is in absurd (omega (arith, within, beyond))
        no_op false isnt beyond =
            ap (λ b. (b && has_call n (all_events logs)) && not (has_begun n (all_events logs))) isnt

    abbrev test : ℕ → Bool
    test n = is_left names (all_events logs) n

    abbrev drops : List Event
    drops = drops_from names.drop test 0 (length script.acts)

    ends : EndsWhole script names.told names.drop test s are_left (state_from script names.told s drops)
    ends = ends_whole script names.told names.drop test s are_left over so.state.order.size

    -- all events are what was shown, and the drops
    are_all : events ≡ all_shown ++ drops
    are_all =
        merging.is
        ∙ (ap (λ xs. xs ++ logs.drops) (merged_is names logs labels logged are events merging)
        ∙ ap (λ xs. all_shown ++ xs) logged.drops)

    state_is : state_of script names.told events ≡ state_from script names.told s drops
    state_is =
        ap (state_of script names.told) are_all
        ∙ state_from-append script names.told (first_state script names.told) s (state_from script names.told s drops) all_shown
        drops refl refl

    legal_all : IsLegalSoFar script names.told events
    legal_all =
        subst (IsLegalSoFar script names.told) (sym are_all)
        (legal-append script names.told (first_state script names.told) s all_shown drops so.legal refl ends.legal)

    -- an operation that no log has called isn't initiated
    untouched_all : (n : ℕ) → n < length script.acts →
        is_untouched names (all_events logs) n ≡ is_uninitiated script (state_of script names.told events) n
    untouched_all n within =
        ap (λ called. (is_op script n && not called) && not (has_begun n (all_events logs))) (sym (same_any (is_call_of n)))
        ∙ (ap (λ begun. (is_op script n && not (has_call n all_shown)) && not begun) (sym (same_any (is_begin_of n)))
        ∙ (untouched_exact script well names.told all_shown room so.expected so.dates.undropped n within so.state.order
        ∙ (ap (λ of. is_op script n && not (was_called of)) (sym (ends.calls n))
        ∙ ap (λ (t : State). is_uninitiated script t n) (sym state_is))))

    half_all : (state_of script names.told events).reactor ≡ half_of script names.told (entries_of logs (reactor_lane script))
    half_all = ap (λ (t : State). t.reactor) state_is ∙ (ends.reactor ∙ half_at_end)

    -- a failure alone would be the first that the reactor showed
    set_up : events ≢ event.Fault ∷ []
    set_up is =
        let only =
        either_false (list_any is_other all_shown) (list_any is_other drops)
        (sym (list_any-append is_other all_shown drops) ∙ ap (list_any is_other) (sym are_all ∙ is)) in
        let silent = reactor_silent names logs logged (sym (same_any is_other) ∙ only.0) in
        let wrong : true ≡ false =
        ap (λ shown. (state_of script names.told shown).reactor.failed) (sym is)
        ∙ (ap (λ (r : ReactorHalf). r.failed) half_all
        ∙ ap (λ xs. (half_of script names.told xs).failed) silent) in
        absurd (cc wrong)

    -- the theorem from what holds of the last state
    pub merged_legal : IsLegalMerging names logs events
    merged_legal = record {
      legal = record { legal = legal_all; whole = subst (IsWhole script) (sym state_is) ends.whole };
      marked =
          let Said : ℕ → ℕ → Type 0 = IsToldMark (own_marks names.run) (BeginsAt events) in
          subst (AreMarked Said names.drop) (sym are_all)
          (marks-append Said names.drop all_shown drops
          (has_marks names well logs labels are events (begins_merged logs events merging labels are.entries) whole labelled)
          (drops_marked Said names.drop (filter test (range_with_len 0 (length script.acts)))));
      unstopped = λ quiet.
          ap has_outside_stop are_all
          ∙ (list_any-append is_outside_stop all_shown drops
          ∙ (ap (λ b. b || list_any is_outside_stop drops) (none_outside names well logs labels are quiet whole labelled)
          ∙ drops_inner names.drop (filter test (range_with_len 0 (length script.acts)))));
      untouched = untouched_all;
      none_missing = none_missing names well logs labels logged are so.expected;
      none_beyond = none_beyond names well logs labels logged are so.expected;
      idle = moves_idly script names.told events legal_all;
      set_up = set_up;
      half = half_all;
    }
