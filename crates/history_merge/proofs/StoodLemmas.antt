-- The rounds of the state stand as the opener's draws say.
use Rattle.std.proofs.Common.{◌≡◌, ◌≢◌, ℕ, suc, ◌+◌, ◌≤◌, Bool, true, false, cond, List, [], ◌∷◌, ◌++◌, inl, inr, length, refl, sym, ap, subst, ◌∙◌, arith}
use Rattle.std.specs.Prelude.{◌&&◌, not, slice_get, sum_by}
use Rattle.std.proofs.lemmas.Bool.{cases_eq}
use Rattle.std.proofs.lemmas.List.{append-nil}
use Rattle.std.proofs.lemmas.List.Sums.{sum_by-cons}
use Rattle.asio_types.specs.declared.event.Event.{Event}
use Rattle.asio_types.specs.declared.event.Event.TheVariants as event
use Rattle.session_script.specs.Script.{ScriptModel, opening_of, stops}
use Rattle.session_script.specs.WellFormed.{IsWellFormed}
use Rattle.strand_core.specs.declared.posted.Posted.{Posted}
use Rattle.history_rules.specs.Legal.{after_event}
use Rattle.history_rules.specs.Rounds.{RoundIsOpen, restarts}
use Rattle.history_rules.specs.State.{ContextState, State, first_context}
use Rattle.history_rules.specs.declared.phase.Progress.{Progress}
use Rattle.lane_clock.specs.declared.found.Change.{Change}
use Rattle.lane_clock.specs.declared.found.Found.{Found}
use Rattle.lane_clock.specs.declared.step.ClockStep.TheVariants.{Draw}
use Rattle.lane_clock.specs.ClockWord.{found_of}
use Rattle.lane_clock.specs.History.{ClockEvent, Fits, IsSoundHistory, steps_under, word_after}
use Rattle.lane_clock.specs.Steps.{draw_count, step_count}
use Rattle.lane_clock.proofs.MomentLemmas.{Tail, sound_tail, tail_more, tail_refl}
use Rattle.lane_logs.specs.Labels.{Labelled, allots, shows, silent, step_of, steps_in}
use Rattle.lane_logs.specs.Logs.{AreLogs, LogsView, session_layout}
use Rattle.lane_logs.specs.Names.{SessionNames}
use Rattle.lane_logs.specs.OpenerLog.{ClosedPart, IsClosedPart, IsRestartedPart, MayFollowOpened, OpenerPart, closed, opened, opener_labels, resting, restarted, stand_after}
use Rattle.lane_logs.specs.SeatNumbers.{opener_seat}
use Rattle.lane_logs.specs.Stand.{Stand, after_draw, draws_of_call, first_stand, is_round_open, round_at, stand_from, wants_restart}
use Rattle.lane_logs.proofs.StandLemmas.{IsOpenStand, open_stand, stand_closed, stand_restarted}
use Rattle.execution_laws.proofs.CountLemmas.{one_more-is}
use Rattle.execution_laws.proofs.RecordRoomLemmas.{rounds-below}
use Rattle.history_merge.proofs.DrawRoundLemmas.{every_here, nothing_in}
use Rattle.history_merge.proofs.EachLabelLemmas.{calls_each, is_of_execution}
use Rattle.history_merge.proofs.FrameLemmas.{IsWithinRound, opening-after, part-after, round_part}
use Rattle.history_merge.proofs.HistoryLemmas.{AreLabelled, IsPlain, label_of, shown_by, shown_in}
use Rattle.history_merge.proofs.LabellingLemmas.{AreLabels}
use Rattle.history_merge.proofs.OpenedLemmas.{left, opened_back, opened_stand}
use Rattle.history_merge.proofs.OpenerLemmas.{stand_at, stand_here, stand_other}
use Rattle.history_merge.proofs.OpenerPartLemmas.{IsClosingAt, closing_at, looks_still, opener_at, opener_follows, restart_at, stand_earlier, still_stand}
use Rattle.history_merge.proofs.PartLemmas.{Every, IsMadeAt}
use Rattle.history_merge.proofs.RoundEventLemmas.{IsNoRestart, IsNoRound, Rounds, base_kept, called_kept, closes_no_restart, closes_round, no_restart, rounds_in, rounds_kept, within_no_round}
use Rattle.history_merge.proofs.ShowsLemmas.{Shows, holds_shown, within_round}
use Rattle.history_merge.proofs.SoFarLemmas.{state_at, state_next, state_with}
use Rattle.history_merge.proofs.StopLemmas.{Halts, halts-append, halts_of, halts_with, no_halts}
use Rattle.history_merge.proofs.WordLemmas.{counts_of}

-- the rounds of a context stand so
pub record HasStand (script : ScriptModel) (stand : Stand) (s : ContextState) : Type 0 where
  pub closings : s.closings ≡ stand.closings
  pub restarted : s.restarted ≡ stand.restarted
  pub alive : s.dropping ≡ false
  pub opened : stand.opening ≡ 0 → s.opening.back ≡ length (opening_of script)

some_draws : (b : Bool) → 1 ≤ cond b 3 2
some_draws true = omega arith
some_draws false = omega arith

pub first_has_stand : (script : ScriptModel) → HasStand script (first_stand script) (first_context script)
first_has_stand script = record {
  closings = refl;
  restarted = refl;
  alive = refl;
  opened = λ none. none_open (opening_of script) none;
}
  where
    none_open : (acts : List ℕ) → sum_by (draws_of_call script) acts ≡ 0 → 0 ≡ length acts
    none_open [] none = refl
    none_open (act ∷ acts) none =
        let split = sum_by-cons (draws_of_call script) act acts in
        let some = some_draws (stops script act) in
        absurd (omega (arith, none, split, some))

-- a round is open in the state where it is open by the stand
must : (a b : Bool) → (a && not b) ≡ false → a ≡ true → b ≡ true
must true true isnt is = refl
must true false isnt is = absurd (cc)
must false b isnt is = absurd (cc)

pub round_is_open : (script : ScriptModel) (stand : Stand) (s : ContextState) → HasStand script stand s →
    is_round_open script stand ≡ true → RoundIsOpen script s
round_is_open script stand s has is =
    let stood = open_stand script stand is in
    record {
      begun = record {
        opened = has.opened stood.opened;
        left = let same = has.closings in let left = stood.left in omega (arith, same, left);
      };
      restarted = λ wanted.
          has.restarted
          ∙ must (restarts (round_at script stand)) stand.restarted stood.started
          (sym (ap (λ n. restarts (slice_get script.rounds n)) has.closings) ∙ wanted);
      alive = has.alive;
    }

module _ (names : SessionNames) (well : IsWellFormed names.script) (logs : LogsView) (labels : ℕ → List Labelled)
    (logged : AreLogs names logs) (are : AreLabels names logs labels) (e : ClockEvent) (es : List ClockEvent)
    (tail : Tail (e ∷ es) logged.closed.history) (all : AreLabelled labels (e ∷ es)) where
  abbrev script : ScriptModel
  script = names.script

  abbrev opener : ℕ
  opener = opener_seat names.script

  abbrev old : State
  old = state_at names.script names.told labels es

  abbrev new : State
  new = state_at names.script names.told labels (e ∷ es)

  abbrev stand : Stand
  stand = stand_at names.script opener es

  abbrev Next : Type 0
  Next = HasStand names.script (stand_at names.script opener (e ∷ es)) new.context

  next_is : (label : Labelled) → label_of labels es e ≡ label → new ≡ state_with names.script names.told label old
  next_is label is =
      state_next names.script names.told labels e es ∙ ap (λ label. state_with names.script names.told label old) is

  same_next : stand_at names.script opener (e ∷ es) ≡ stand → new ≡ old → HasStand names.script stand old.context → Next
  same_next stays is has =
      subst (λ stand. HasStand names.script stand new.context) (sym stays)
      (subst (λ (s : State). HasStand names.script stand s.context) (sym is) has)

  -- by any other than the opener
  within_next : (shown : Event) → IsWithinRound names.script shown → new ≡ after_event names.script names.told old shown →
      HasStand names.script stand old.context → HasStand names.script stand new.context
  within_next shown inside is has =
      let same : rounds_in (round_part new.context) ≡ rounds_in (round_part old.context) =
      ap (λ (s : State). rounds_in (round_part s.context)) is
      ∙ (ap rounds_in (part-after names.script old.context shown)
      ∙ rounds_kept shown (round_part old.context) (within_no_round names.script shown inside)) in
      let opening : new.context.opening ≡ old.context.opening =
      ap (λ (s : State). s.context.opening) is ∙ opening-after names.script old.context shown inside in
      record {
        closings = ap (λ (r : Rounds). r.closings) same ∙ has.closings;
        restarted = ap (λ (r : Rounds). r.restarted) same ∙ has.restarted;
        alive = ap (λ (r : Rounds). r.dropping) same ∙ has.alive;
        opened = λ none. ap (λ (p : Progress). p.back) opening ∙ has.opened none;
      }

  other_next : e.by ≢ opener → (label : Labelled) → label_of labels es e ≡ label →
      HasStand names.script stand old.context → Next
  other_next other (silent step) is has = same_next (stand_other names.script opener e es other) (next_is (silent step) is) has
  other_next other (allots act lane place) is has =
      same_next (stand_other names.script opener e es other) (next_is (allots act lane place) is) has
  other_next other (shows shown changes found) is has =
      let inside : IsWithinRound names.script shown =
      subst (Shows (IsWithinRound names.script)) is
      (within_round names well logs labels are e.by _ (label_of labels es e) all.1.there other) in
      subst (λ stand. HasStand names.script stand new.context) (sym (stand_other names.script opener e es other))
      (within_next shown inside (next_is (shows shown changes found) is) has)

  -- by the opener
  module _ (by : e.by ≡ opener) where
    step_is : (label : Labelled) → label_of labels es e ≡ label → e.step ≡ step_of label
    step_is label is = sym all.1.step ∙ ap step_of is

    quiet_next : draw_count e.step ≡ 0 → new ≡ old → HasStand names.script stand old.context → Next
    quiet_next none is has =
        same_next (stand_here names.script opener e es by ∙ still_stand names.script stand (e.step ∷ []) (omega (arith, none)))
        is has

    module _ (shown : Event) (changes : Change) (found : Found) (is : label_of labels es e ≡ shows shown changes found)
      where
        abbrev at : IsMadeAt OpenerPart opener_labels are.opener.parts (length (steps_under opener es)) (label_of labels es e)
        at = opener_at names logs labels logged are e es tail all.1 by

        stand_now : stand_at names.script opener (e ∷ es) ≡ after_draw names.script stand found
        stand_now =
            stand_here names.script opener e es by
            ∙ ap (λ step. stand_from names.script stand (step ∷ [])) (step_is (shows shown changes found) is)

        now_is : new ≡ after_event names.script names.told old shown
        now_is = next_is (shows shown changes found) is

        pub labels_of_part : (part : OpenerPart) → at.part ≡ part → opener_labels part ≡ at.before ++ shows shown changes found ∷ at.after
        labels_of_part part here =
            sym (ap opener_labels here) ∙ (at.labels_are ∙ ap (λ label. at.before ++ label ∷ at.after) is)

        pub part_follows : (part : OpenerPart) → at.part ≡ part → MayFollowOpened names.script logs.lists at.earlier part
        part_follows part here =
            subst (MayFollowOpened names.script logs.lists at.earlier) here
            (opener_follows names logs labels logged are e es tail all.1 by)

        -- a call of `open`
        module _ (calls : List Posted) (made : List Labelled) (here : at.part ≡ opened calls made) where
          abbrev count : ℕ
          count = left names well logs labels logged are e es tail all by shown changes found is calls made here

          was_open : stand ≡ record (first_stand names.script) { opening = suc count }
          was_open = opened_stand names well logs labels logged are e es tail all by shown changes found is calls made here

          now_open : stand_at names.script opener (e ∷ es) ≡ record (first_stand names.script) { opening = count }
          now_open = stand_now ∙ ap (λ stand. after_draw names.script stand found) was_open

          pub open_shows : IsNoRound shown
          open_shows =
              every_here (Shows IsNoRound) at.before (shows shown changes found) at.after
              (subst (Every (Shows IsNoRound)) (labels_of_part (opened calls made) here)
              (calls_each (Shows IsNoRound) names.script (holds_shown is_of_execution IsNoRound called_kept)
              (part_follows (opened calls made) here).drawn))

          opened_next : HasStand names.script stand old.context → Next
          opened_next has =
              let same : rounds_in (round_part new.context) ≡ rounds_in (round_part old.context) =
              ap (λ (s : State). rounds_in (round_part s.context)) now_is
              ∙ (ap rounds_in (part-after names.script old.context shown)
              ∙ rounds_kept shown (round_part old.context) open_shows) in
              record {
                closings = ap (λ (r : Rounds). r.closings) same
                    ∙ (has.closings ∙ (ap (λ (s : Stand). s.closings) was_open ∙ sym (ap (λ (s : Stand). s.closings) now_open)));
                restarted = ap (λ (r : Rounds). r.restarted) same
                    ∙ (has.restarted
                    ∙ (ap (λ (s : Stand). s.restarted) was_open ∙ sym (ap (λ (s : Stand). s.restarted) now_open)));
                alive = ap (λ (r : Rounds). r.dropping) same ∙ has.alive;
                opened = λ over.
                    opened_back names well logs labels logged are e es tail all by shown changes found is calls made here
                    (sym (ap (λ (s : Stand). s.opening) now_open) ∙ over);
              }

        -- a restart
        module _ (drawn : Found) (here : at.part ≡ restarted drawn) where
          restart_alone : (at.before ≡ []) × (shown ≡ event.Restart)
          restart_alone = restart_at drawn at.before at.after shown changes found (labels_of_part (restarted drawn) here)

          pub restart_part : IsRestartedPart names.script logs.lists at.earlier
          restart_part = part_follows (restarted drawn) here

          pub restart_shows : shown ≡ event.Restart
          restart_shows = restart_alone.1

          pub restart_first : at.before ≡ []
          restart_first = restart_alone.0

          pub restart_stood : stand ≡ stand_after names.script logs.lists at.earlier
          restart_stood =
              stand_earlier names logs labels logged are e es tail all.1 by
              (ap (λ labels. step_count draw_count (steps_in labels)) restart_alone.0)

          restart_now : stand_at names.script opener (e ∷ es) ≡ record stand { restarted = true; base = found.stops }
          restart_now =
              stand_now
              ∙ stand_restarted names.script stand found (ap (λ (s : Stand). s.opening) restart_stood ∙ restart_part.opened)
              (ap (wants_restart names.script) restart_stood ∙ restart_part.wanted)

          restart_next : HasStand names.script stand old.context → Next
          restart_next has =
              let new_is : new ≡ after_event names.script names.told old event.Restart =
              now_is ∙ ap (after_event names.script names.told old) restart_shows in
              record {
                closings = ap (λ (s : State). s.context.closings) new_is
                    ∙ (has.closings ∙ sym (ap (λ (s : Stand). s.closings) restart_now));
                restarted = ap (λ (s : State). s.context.restarted) new_is ∙ sym (ap (λ (s : Stand). s.restarted) restart_now);
                alive = ap (λ (s : State). s.context.dropping) new_is ∙ has.alive;
                opened = λ over.
                    ap (λ (s : State). s.context.opening.back) new_is
                    ∙ has.opened (sym (ap (λ (s : Stand). s.opening) restart_now) ∙ over);
              }

        -- a closing
        module _ (part : ClosedPart) (here : at.part ≡ closed part) where
          pub closed_part : IsClosedPart names.script logs.lists at.earlier part
          closed_part = part_follows (closed part) here

          pub closed_behind : IsClosingAt part at.before shown
          closed_behind = closing_at part at.before at.after shown changes found (labels_of_part (closed part) here)

          pub closed_stood : stand ≡ stand_after names.script logs.lists at.earlier
          closed_stood =
              stand_earlier names logs labels logged are e es tail all.1 by
              (ap (λ labels. step_count draw_count (steps_in labels)) closed_behind.front
              ∙ (let none = looks_still part.looks in omega (arith, none)))

          closed_open : IsOpenStand names.script stand
          closed_open = open_stand names.script stand (ap (is_round_open names.script) closed_stood ∙ closed_part.round)

          closed_now : stand_at names.script opener (e ∷ es) ≡ record stand { closings = stand.closings + 1; restarted = false }
          closed_now = stand_now ∙ stand_closed names.script stand found closed_open

          closed_next : HasStand names.script stand old.context → Next
          closed_next has =
              let after = closes_round names.script logs.lists at.earlier part part.shown closed_part.closes old.context in
              let new_is : new ≡ after_event names.script names.told old part.shown =
              now_is ∙ ap (after_event names.script names.told old) closed_behind.event in
              let few = rounds-below names.script.version in
              let most = well.round_count in
              let less = closed_open.left in
              let had = has.closings in
              record {
                closings = ap (λ (s : State). s.context.closings) new_is
                    ∙ (after.closings
                    ∙ (one_more-is old.context.closings (omega (arith, few, most, less, had))
                    ∙ (ap (λ n. n + 1) had ∙ sym (ap (λ (s : Stand). s.closings) closed_now))));
                restarted = ap (λ (s : State). s.context.restarted) new_is
                    ∙ (after.restarted ∙ sym (ap (λ (s : Stand). s.restarted) closed_now));
                alive = ap (λ (s : State). s.context.dropping) new_is ∙ (after.dropping ∙ has.alive);
                opened = λ over.
                    ap (λ (s : State). s.context.opening.back) new_is
                    ∙ (ap (λ (p : Progress). p.back) after.opening
                    ∙ has.opened (sym (ap (λ (s : Stand). s.opening) closed_now) ∙ over));
              }

        by_part : (part : OpenerPart) → at.part ≡ part → HasStand names.script stand old.context → Next
        by_part (resting step) here has =
            absurd (nothing_in step at.before shown changes found at.after (labels_of_part (resting step) here))
        by_part (opened calls made) here has = opened_next calls made here has
        by_part (restarted drawn) here has = restart_next drawn here has
        by_part (closed part) here has = closed_next part here has

        -- the stops that the last restart found are those of the events so far
        abbrev BaseIs : List ClockEvent → Type 0
        BaseIs xs = (stand_at names.script opener xs).base ≡ (halts_of (shown_in labels xs)).base

        halts_now : halts_of (shown_in labels (e ∷ es)) ≡ halts_with shown (halts_of (shown_in labels es))
        halts_now =
            ap (λ label. halts_of (shown_in labels es ++ shown_by label)) is
            ∙ halts-append no_halts (shown_in labels es) (shown ∷ [])

        base_by : (part : OpenerPart) → at.part ≡ part →
            found.stops ≡ (halts_of (shown_in labels es)).stops → BaseIs es → BaseIs (e ∷ es)
        base_by (resting step) here stops before =
            absurd (nothing_in step at.before shown changes found at.after (labels_of_part (resting step) here))
        base_by (opened calls made) here stops before =
            ap (λ (s : Stand). s.base) (now_open calls made here)
            ∙ (sym (ap (λ (s : Stand). s.base) (was_open calls made here))
            ∙ (before
            ∙ sym (ap (λ (h : Halts). h.base) halts_now
            ∙ base_kept shown (halts_of (shown_in labels es)) (no_restart shown (open_shows calls made here)))))
        base_by (restarted drawn) here stops before =
            ap (λ (s : Stand). s.base) (restart_now drawn here)
            ∙ (stops
            ∙ sym (ap (λ (h : Halts). h.base) halts_now
            ∙ ap (λ shown. (halts_with shown (halts_of (shown_in labels es))).base) (restart_shows drawn here)))
        base_by (closed part) here stops before =
            ap (λ (s : Stand). s.base) (closed_now part here)
            ∙ (before
            ∙ sym (ap (λ (h : Halts). h.base) halts_now
            ∙ base_kept shown (halts_of (shown_in labels es))
            (subst IsNoRestart (sym (closed_behind part here).event)
            (closes_no_restart names.script logs.lists at.earlier part part.shown (closed_part part here).closes))))

    own_next : (label : Labelled) → label_of labels es e ≡ label → HasStand names.script stand old.context → Next
    own_next (silent step) is has =
        quiet_next (ap draw_count (step_is (silent step) is) ∙ (subst IsPlain is all.1.plain).0) (next_is (silent step) is) has
    own_next (allots act lane place) is has =
        quiet_next (ap draw_count (step_is (allots act lane place) is)) (next_is (allots act lane place) is) has
    own_next (shows shown changes found) is has =
        by_part shown changes found is (opener_at names logs labels logged are e es tail all.1 by).part refl has

  -- where the clock word counts the stops
  module _ (counts : found_of (word_after names.script.guards es) ≡ counts_of names.script names.told labels es)
      (sound : IsSoundHistory names.script.guards (session_layout names.script).seats (e ∷ es)) where
    stops_found : (shown : Event) (changes : Change) (found : Found) → label_of labels es e ≡ shows shown changes found →
        found.stops ≡ (halts_of (shown_in labels es)).stops
    stops_found shown changes found is =
        let step : e.step ≡ Draw shown changes found = sym all.1.step ∙ ap step_of is in
        let fits : Fits names.script.guards es e.by (Draw shown changes found) = subst (Fits names.script.guards es e.by) step sound.2 in
        ap (λ (f : Found). f.stops) (fits.0 ∙ counts)

    still_halts : (label : Labelled) → label_of labels es e ≡ label → shown_by label ≡ [] →
        halts_of (shown_in labels (e ∷ es)) ≡ halts_of (shown_in labels es)
    still_halts label is none =
        ap (λ label. halts_of (shown_in labels es ++ shown_by label)) is
        ∙ ap halts_of (ap (λ events. shown_in labels es ++ events) none ∙ append-nil (shown_in labels es))

    abbrev BaseSo : List ClockEvent → Type 0
    BaseSo xs = (stand_at names.script opener xs).base ≡ (halts_of (shown_in labels xs)).base

    base_own : (by : e.by ≡ opener) (label : Labelled) → label_of labels es e ≡ label → BaseSo es → BaseSo (e ∷ es)
    base_own by (silent step) is before =
        let none : draw_count e.step ≡ 0 =
        ap draw_count (step_is by (silent step) is) ∙ (subst IsPlain is all.1.plain).0 in
        ap (λ (s : Stand). s.base)
        (stand_here names.script opener e es by ∙ still_stand names.script stand (e.step ∷ []) (omega (arith, none)))
        ∙ (before ∙ sym (ap (λ (h : Halts). h.base) (still_halts (silent step) is refl)))
    base_own by (allots act lane place) is before =
        let none : draw_count e.step ≡ 0 = ap draw_count (step_is by (allots act lane place) is) in
        ap (λ (s : Stand). s.base)
        (stand_here names.script opener e es by ∙ still_stand names.script stand (e.step ∷ []) (omega (arith, none)))
        ∙ (before ∙ sym (ap (λ (h : Halts). h.base) (still_halts (allots act lane place) is refl)))
    base_own by (shows shown changes found) is before =
        base_by by shown changes found is (opener_at names logs labels logged are e es tail all.1 by).part refl
        (stops_found shown changes found is) before

    base_other : e.by ≢ opener → (label : Labelled) → label_of labels es e ≡ label → BaseSo es → BaseSo (e ∷ es)
    base_other other (silent step) is before =
        ap (λ (s : Stand). s.base) (stand_other names.script opener e es other)
        ∙ (before ∙ sym (ap (λ (h : Halts). h.base) (still_halts (silent step) is refl)))
    base_other other (allots act lane place) is before =
        ap (λ (s : Stand). s.base) (stand_other names.script opener e es other)
        ∙ (before ∙ sym (ap (λ (h : Halts). h.base) (still_halts (allots act lane place) is refl)))
    base_other other (shows shown changes found) is before =
        let inside : IsWithinRound names.script shown =
        subst (Shows (IsWithinRound names.script)) is
        (within_round names well logs labels are e.by _ (label_of labels es e) all.1.there other) in
        let now : halts_of (shown_in labels (e ∷ es)) ≡ halts_with shown (halts_of (shown_in labels es)) =
        ap (λ label. halts_of (shown_in labels es ++ shown_by label)) is
        ∙ halts-append no_halts (shown_in labels es) (shown ∷ []) in
        ap (λ (s : Stand). s.base) (stand_other names.script opener e es other)
        ∙ (before
        ∙ sym (ap (λ (h : Halts). h.base) now
        ∙ base_kept shown (halts_of (shown_in labels es)) (no_restart shown (within_no_round names.script shown inside))))

    pub base_next : BaseSo es → BaseSo (e ∷ es)
    base_next before = elim (cases_eq e.by opener) [
      | inl by ↦ base_own by (label_of labels es e) refl before
      | inr other ↦ base_other other (label_of labels es e) refl before
    ]

  pub stand_next : HasStand names.script stand old.context → Next
  stand_next has = elim (cases_eq e.by opener) [
    | inl by ↦ own_next by (label_of labels es e) refl has
    | inr other ↦ other_next other (label_of labels es e) refl has
  ]

-- so they stand after each history of steps
pub has_stand : (names : SessionNames) → IsWellFormed names.script → (logs : LogsView) (labels : ℕ → List Labelled)
    (logged : AreLogs names logs) → AreLabels names logs labels → (es : List ClockEvent) → Tail es logged.closed.history →
    AreLabelled labels es →
    HasStand names.script (stand_at names.script (opener_seat names.script) es)
    (state_at names.script names.told labels es).context
has_stand names well logs labels logged are [] tail all = first_has_stand names.script
has_stand names well logs labels logged are (e ∷ es) tail all =
    stand_next names well logs labels logged are e es tail all
    (has_stand names well logs labels logged are es (tail_more es e logged.closed.history tail) all.0)

-- and the stops that the last restart found are those that the events count, where the clock word counted them so far
pub base_is : (names : SessionNames) → IsWellFormed names.script → (logs : LogsView) (labels : ℕ → List Labelled)
    (logged : AreLogs names logs) → AreLabels names logs labels → (es : List ClockEvent) → Tail es logged.closed.history →
    AreLabelled labels es →
    ((a : List ClockEvent) → Tail a es →
    found_of (word_after names.script.guards a) ≡ counts_of names.script names.told labels a) →
    (stand_at names.script (opener_seat names.script) es).base ≡ (halts_of (shown_in labels es)).base
base_is names well logs labels logged are [] tail all counts = refl
base_is names well logs labels logged are (e ∷ es) tail all counts =
    let older = tail_more es e logged.closed.history tail in
    base_next names well logs labels logged are e es tail all (counts es (inr (tail_refl es)))
    (sound_tail names.script.guards (session_layout names.script).seats (e ∷ es) logged.closed.history tail
    logged.closed.sound)
    (base_is names well logs labels logged are es older all.0 (λ a within. counts a (inr within)))
