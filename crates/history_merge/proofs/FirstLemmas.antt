-- Of one lane's operations, and of requests, none is before the one that was noted at the lane's next place.
use Rattle.std.proofs.Common.{◌≡◌, ◌≢◌, ℕ, suc, ◌<◌, ◌≤◌, Bool, true, false, cond, not, List, Some, inl, inr, length, refl, sym, ap, subst, ◌∙◌, arith, ltb-true}
use Rattle.std.specs.Prelude.{◌||◌, nat_lt}
use Rattle.std.proofs.lemmas.Bool.{and_parts, eq-eqb, eqb-true}
use mathlib.Core.Option.{some, some-injective}
use lib.ListN.{get_elem?}
use Rattle.asio_types.specs.declared.code.Code.TheVariants as code
use Rattle.asio_types.specs.declared.event.Event.TheVariants as event
use Rattle.session_script.specs.declared.act.Act.{Act}
use Rattle.session_script.specs.declared.act.Act.TheVariants as act
use Rattle.session_script.specs.Script.{ScriptModel, act_of, is_operation, is_stop, stops}
use Rattle.session_script.specs.Lanes.{is_inline}
use Rattle.session_script.specs.WellFormed.{IsWellFormed}
use Rattle.history_rules.specs.Calls.{accepted}
use Rattle.history_rules.specs.Kinds.{is_act, is_control, is_posting}
use Rattle.history_rules.specs.Order.{IsFirstRequest, called_at, is_back_before, is_request, was_taken}
use Rattle.history_rules.specs.State.{State, call_at, phase_at}
use Rattle.history_rules.specs.declared.phase.ActPhase.TheVariants as phase
use Rattle.history_rules.specs.declared.phase.CallPhase.{CallPhase}
use Rattle.history_rules.specs.declared.phase.CallPhase.TheVariants as call
use Rattle.history_rules.specs.declared.phase.Cause.TheVariants as cause
use Rattle.execution_laws.specs.Kinds.{was_called}
use Rattle.reactor_turns.specs.Standing.{is_awaited}
use Rattle.lane_clock.specs.declared.found.Change.TheVariants as change
use Rattle.lane_clock.specs.declared.note.Note.{Note}
use Rattle.lane_clock.specs.History.{ClockEvent, steps_under}
use Rattle.lane_clock.proofs.MomentLemmas.{Tail}
use Rattle.lane_map.specs.LaneNumbers.{act_passes, asks_its_lane, home_lane, reactor_lane}
use Rattle.lane_logs.specs.Labels.{Labelled, allots, shows, silent}
use Rattle.lane_logs.specs.Logs.{AreLogs, LogsView}
use Rattle.lane_logs.specs.Names.{SessionNames}
use Rattle.lane_logs.specs.SeatNumbers.{lane_count}
use Rattle.history_merge.proofs.AlikeLemmas.{is_not, never}
use Rattle.history_merge.proofs.AskedLemmas.{IsAskedPlace, asked_label}
use Rattle.history_merge.proofs.BackLemmas.{at_least, find, placed_before}
use Rattle.history_merge.proofs.BalanceLemmas.{open_request}
use Rattle.history_merge.proofs.CountedLemmas.{counted_in}
use Rattle.history_merge.proofs.HistoryLemmas.{AreLabelled, shown_in}
use Rattle.history_merge.proofs.LabellingLemmas.{AreLabels}
use Rattle.history_merge.proofs.LaneOfLemmas.{home_before}
use Rattle.history_merge.proofs.NoteLemmas.{IsCallNote, IsNoted}
use Rattle.history_merge.proofs.PairedLemmas.{is_call_label, is_led_label, paired_times}
use Rattle.history_merge.proofs.PlacedLemmas.{number_paired}
use Rattle.history_merge.proofs.SoLemmas.{IsSo, state_so}
use Rattle.history_merge.proofs.StagedLemmas.{labelled_to, reactor_within, seats, sound_to}
use Rattle.history_merge.proofs.TimeLemmas.{IsMade, before_by_count, before_by_index, count_before, made_of, made_shown, made_there, made_within, places_rise, shown_before, shown_made}
use Rattle.history_merge.proofs.ToldLemmas.{on_turn}

pub back_before : (place : ℕ) (of : CallPhase) → is_back_before place of ≡ true →
    (c : ℕ) × (b : ℕ) × (of ≡ call.Back c b) × (nat_lt b place ≡ true)
back_before place call.Uncalled is = absurd (cc)
back_before place (call.Open called) is = absurd (cc)
back_before place (call.Stopping called) is = absurd (cc)
back_before place (call.Back called back) is = (called, back, refl, is)

module _ (names : SessionNames) (well : IsWellFormed names.script) (logs : LogsView) (labels : ℕ → List Labelled)
    (logged : AreLogs names logs) (are : AreLabels names logs labels) (es : List ClockEvent)
    (tail : Tail es logged.closed.history) (so : IsSo names logs labels are es) where
  abbrev script : ScriptModel
  script = names.script

  abbrev r : ℕ
  r = reactor_lane names.script

  abbrev s : State
  s = state_so names logs labels are es

  abbrev all : AreLabelled labels es
  all = labelled_to names well logs labels logged are es tail

  abbrev within : reactor_lane names.script < lane_count names.script
  within = reactor_within names well logs labels logged are

  -- how many events were counted before a label was made
  abbrev pub count_of : {n : ℕ} {label : Labelled} → IsMade labels es n label → ℕ
  count_of {n} {label} made = counted_in (shown_in labels made.older)

  -- An act whose call came back got a place before that
  pub record IsPlacedBy (x b : ℕ) : Type 0 where
    pub number : ℕ
    pub away : number ≢ reactor_lane names.script
    pub lane : ℕ
    pub place : ℕ
    pub made : IsMade labels es number (allots x lane place)
    pub before : counted_in (shown_in labels made.older) ≤ b

  pub placed_by : (x c b : ℕ) → stops names.script x ≡ false → is_inline names.script x ≡ false →
      call_at s.context x ≡ call.Back c b → IsPlacedBy x b
  placed_by x c b going unentered is =
      let back = shown_made labels es (event.Back x) b (so.dates.back x c b is) in
      let at = made_there labels es all back.number (shows (event.Back x) back.changes back.found) back.made in
      let away : back.number ≢ r = λ same.
      let turns =
      on_turn names logs labels are within (length (steps_under r back.made.older)) (event.Back x) back.changes back.found
      (subst (λ n. get_elem? (labels n) (length (steps_under n back.made.older))
      ≡ some (shows (event.Back x) back.changes back.found)) same at) in
      let wrong : false ≡ true = turns in
      cc in
      let found =
      placed_before names logs labels are x going unentered back.number away
      (length (steps_under back.number back.made.older)) (shows (event.Back x) back.changes back.found) at
      (eq-eqb x x refl) in
      let less = found.before in
      let most =
      made_within labels es back.number (shows (event.Back x) back.changes back.found) back.made in
      let made =
      made_of labels es all back.number found.at (allots x found.lane found.place) found.there (omega (arith, less, most)) in
      let index = made.1 in
      let first =
      before_by_index labels es back.number back.number (allots x found.lane found.place)
      (shows (event.Back x) back.changes back.found) made.0 back.made refl (omega (arith, less, index)) in
      let count =
      count_before labels es back.number back.number (allots x found.lane found.place)
      (shows (event.Back x) back.changes back.found) made.0 back.made first in
      let counts = back.counts in
      record {
        number = back.number;
        away = away;
        lane = found.lane;
        place = found.place;
        made = made.0;
        before = omega (arith, count, counts);
      }

  -- The call of an act that a call's note is of came before its place
  pub record IsCalledBefore (x count : ℕ) : Type 0 where
    pub called : was_called (call_at s.context x) ≡ true
    pub before : called_at (call_at s.context x) < count

  pub called_before : (number x lane place : ℕ) → number ≢ reactor_lane names.script →
      (made : IsMade labels es number (allots x lane place)) →
      IsCalledBefore x (counted_in (shown_in labels made.older))
  called_before number x lane place away made =
      let at = made_there labels es all number (allots x lane place) made in
      let index : ℕ = length (steps_under number made.older) in
      let least = at_least (is_led_label x) (labels number) index (allots x lane place) at (eq-eqb x x refl) in
      let paired =
      paired_times (is_call_label x) (is_led_label x) (labels number) 0 (suc index)
      (number_paired names logs labels are x number away) in
      let found = find (is_call_label x) (labels number) (suc index) (omega (arith, least, paired)) in
      by_label found.0 found.1 found.2 found.3 found.4
    where
      by_label : (j : ℕ) (label : Labelled) → j < suc (length (steps_under number made.older)) →
          get_elem? (labels number) j ≡ some label → is_call_label x label ≡ true →
          IsCalledBefore x (counted_in (shown_in labels made.older))
      by_label j (silent step) less there is = absurd (cc)
      by_label j (allots act at where_at) less there is = absurd (cc)
      by_label j (shows (event.Call a) changes found) less there is =
          let same : a ≡ x = eqb-true a x is in
          let at = made_there labels es all number (allots x lane place) made in
          let other : j ≢ length (steps_under number made.older) = λ equal.
          let wrong : shows (event.Call a) changes found ≡ allots x lane place =
          some-injective (shows (event.Call a) changes found) (allots x lane place)
          (sym there ∙ (ap (get_elem? (labels number)) equal ∙ at)) in
          cc in
          let most = made_within labels es number (allots x lane place) made in
          let called =
          made_of labels es all number j (shows (event.Call a) changes found) there (omega (arith, less, most)) in
          let index = called.1 in
          let first =
          before_by_index labels es number number (shows (event.Call a) changes found) (allots x lane place) called.0 made refl
          (omega (arith, less, index, other)) in
          let count =
          shown_before labels es number number (shows (event.Call a) changes found) (allots x lane place) called.0 made
          (event.Call a) changes found refl refl first in
          let dated =
          so.dates.dates a (counted_in (shown_in labels called.0.older))
          (made_shown labels es number (event.Call a) changes found called.0) in
          subst (λ x. IsCalledBefore x (counted_in (shown_in labels made.older))) same (record {
            called = dated.0;
            before = let date = dated.1 in omega (arith, count, date);
          })
      by_label j (shows other changes found) less there is = absurd (cc)

  -- Requests: the one that was noted at the reactor's next place, where all earlier places were taken
  no_stop : (given : Act) → (is_awaited given || is_control given) ≡ true →
      (is_stop given ≡ false) × (asks_its_lane given ≡ false)
  no_stop (act.Post strand) asks = absurd (cc)
  no_stop (act.Defer strand) asks = absurd (cc)
  no_stop (act.Dispatch strand) asks = absurd (cc)
  no_stop act.Stop asks = absurd (cc)
  no_stop other asks = (refl, refl)

  request_out : (inline posting operation control : Bool) →
      is_request (cond inline phase.Inside (cond posting (phase.Ready code.Ok 0 cause.Posted)
      (cond operation phase.Requested (cond control phase.Asked phase.Absent)))) ≡ true → inline ≡ false
  request_out true posting operation control asks = absurd (cc)
  request_out false posting operation control asks = refl

  pub record IsNextRequest (a : ℕ) : Type 0 where
    pub called : was_called (call_at s.context a) ≡ true
    pub first : IsFirstRequest s a

  module _ (a k : ℕ) (note : Note) (is_of : note.op ≡ a)
      (noted : IsNoted names logs labels are within es (reactor_lane names.script) k note)
      (passed : (x number p : ℕ) → p < k → IsMade labels es number (allots x (reactor_lane names.script) p) →
      was_taken s.reactor x ≡ true) where
    by_call : IsCallNote names logs labels are within es (reactor_lane names.script) k note → IsNextRequest a
    by_call is =
        let own = called_before is.number note.op r k is.away is.placed in
        subst IsNextRequest is_of (record {
          called = own.called;
          first = λ x untaken.
              is_not (is_back_before (called_at (call_at s.context note.op)) (call_at s.context x)) (λ before.
              let back = back_before (called_at (call_at s.context note.op)) (call_at s.context x) before in
              let parts = and_parts (is_request (phase_at s.context x)) (not (was_taken s.reactor x)) untaken in
              let fresh : was_taken s.reactor x ≡ false = not_false (was_taken s.reactor x) parts.1 in
              let request = open_request script s so.state.kinds x parts.0 fresh in
              let kind = no_stop request.act request.asks in
              let going : stops script x ≡ false = stop_is x request.act request.is ∙ kind.0 in
              let accepts : is_request (accepted script x) ≡ true =
              sym (ap is_request ((so.state.kinds x).asked parts.0)) ∙ parts.0 in
              let out =
              request_out (is_inline script x) (is_act is_posting script x) (is_act is_operation script x)
              (is_act is_control script x) accepts in
              let placed = placed_by x back.0 back.1 going out back.2 in
              let asked : IsAskedPlace script x placed.lane =
              asked_label names well logs labels are placed.number (length (steps_under placed.number placed.made.older))
              (allots x placed.lane placed.place)
              (made_there labels es all placed.number (allots x placed.lane placed.place) placed.made) placed.away in
              let lane : placed.lane ≡ r =
              asked.asks ∙ ap (λ b. cond b (home_lane script x) (reactor_lane script)) (lane_is x request.act request.is ∙ kind.1) in
              by_time x back.1 placed.number placed.place placed.lane lane placed.made placed.before own.before
              (ltb-true back.1 (called_at (call_at s.context note.op)) back.3) fresh);
        })
      where
        not_false : (b : Bool) → not b ≡ true → b ≡ false
        not_false true is = absurd (cc)
        not_false false is = refl

        stop_is : (x : ℕ) (given : Act) → act_of script x ≡ Some given → stops script x ≡ is_stop given
        stop_is x given is = rw is refl

        lane_is : (x : ℕ) (given : Act) → act_of script x ≡ Some given →
            act_passes asks_its_lane script x ≡ asks_its_lane given
        lane_is x given is = rw is refl

        by_time : (x b number p lane : ℕ) → lane ≡ r → (made : IsMade labels es number (allots x lane p)) →
            counted_in (shown_in labels made.older) ≤ b →
            called_at (call_at s.context note.op) < counted_in (shown_in labels is.placed.older) →
            b < called_at (call_at s.context note.op) → was_taken s.reactor x ≡ false → ⊥
        by_time x b number p lane same =
            subst (λ lane.
            (made : IsMade labels es number (allots x lane p)) → counted_in (shown_in labels made.older) ≤ b →
            called_at (call_at s.context note.op) < counted_in (shown_in labels is.placed.older) →
            b < called_at (call_at s.context note.op) → was_taken s.reactor x ≡ false → ⊥) (sym same)
            (λ made first second less fresh.
            let before =
            before_by_count labels es number is.number (allots x r p) (allots note.op r k) made is.placed
            (omega (arith, first, second, less)) in
            let lesser =
            places_rise labels r names.script.guards (seats names well logs labels logged are) es
            (sound_to names well logs labels logged are es tail) all number is.number x note.op p k made is.placed before in
            never (was_taken s.reactor x) fresh (passed x number p lesser made))

    -- a completion puts no note for the reactor
    pub next_request : IsNextRequest a
    next_request = elim noted [
      | inl is ↦ by_call is
      | inr is ↦
          absurd (let kind =
          so.dates.kind note.op note.code note.size (counted_in (shown_in labels is.told.older))
          (made_shown labels es r (event.Done note.op note.code note.size) change.Same is.found is.told) in
          let below = home_before script well note.op kind.op in
          let home = is.home in
          omega (arith, below, home))
    ]
