-- An attempt at the reactor's lane, put together of what its steps are.
use Rattle.std.proofs.Common.{◌≡◌, ◌≢◌, ◌⊎◌, ℕ, ◌+◌, ◌-◌, ◌^◌, ◌<◌, ◌≤◌, Bool, true, false, cond, [], ◌∷◌, ◌++◌, Option, Some, None, inl, inr, length, refl, sym, ap, subst, ◌∙◌, arith}
use Rattle.std.proofs.lemmas.List.{append_assoc}
use Rattle.std.specs.Option.{option_or}
use Rattle.std.specs.Prelude.{◌↔◌, IsTrue, nat_lt, slice_index}
use Rattle.asio_types.specs.declared.event.Event.TheVariants as event
use Rattle.session_script.specs.Script.{ScriptModel}
use Rattle.session_script.specs.WellFormed.{IsWellFormed}
use Rattle.history_rules.specs.Legal.{reactor_after}
use Rattle.history_rules.specs.State.{ReactorHalf}
use Rattle.history_rules.specs.Time.{next_time, pending_count}
use Rattle.reactor_trait.specs.Reactor.{Outside, ReactorState}
use Rattle.proactor_core.specs.Proactor.{Follows, ProactorView}
use Rattle.lane_clock.specs.declared.found.Change.{Change}
use Rattle.lane_clock.specs.declared.found.Change.TheVariants as change
use Rattle.lane_clock.specs.declared.found.Found.{Found}
use Rattle.lane_clock.specs.declared.note.Note.{Note}
use Rattle.lane_clock.specs.declared.step.ClockStep.TheVariants.{Load, Look}
use Rattle.lane_clock.specs.Steps.{draw_count, place_count, step_count}
use Rattle.lane_map.specs.LaneNumbers.{cells_of}
use Rattle.lane_logs.specs.Half.{held_guards}
use Rattle.lane_logs.specs.Labels.{Labelled, silent, shows, entries_in, steps_in}
use Rattle.lane_logs.specs.Names.{SessionNames}
use Rattle.lane_logs.specs.Parts.{end_labels, fault_label, looks_empty, looks_full, passes, takes}
use Rattle.lane_logs.specs.ReactorTurns.{EndsTurn, may_take, point_event, take_change}
use Rattle.lane_turns.specs.declared.lane.LaneStanding.{LaneStanding}
use Rattle.lane_turns.specs.declared.one.One.{One}
use Rattle.lane_turns.specs.Batons.{LaneView}
use Rattle.lane_turns.specs.Pens.{HasGone, PenView}
use Rattle.lane_turns.specs.Polling.{with_pen}
use Rattle.lane_turns.specs.ReactorPolling.{FailedNext, FoundNoRequest, FoundOtherWork, IsIdleWork, LeftRequest, LeftTime, MayWait, MissedRequest, TurnCameTo, TurnedNext}
use Rattle.lane_turns.specs.Turning.{HasFailedAlone, HasTurned, HasTurnRoom, KeepsTurns, log_half}
use Rattle.lane_turns.proofs.HalfLemmas.{log_still, room_still}
use Rattle.lane_turns.proofs.PenLemmas.{gone_on}
use Rattle.lane_turns.proofs.PollingLemmas.{left_gone, standing}
use Rattle.lane_turns.proofs.TakingLemmas.{few_guards}

-- a look that saw nothing, if there is a cell, shows nothing
empty_entries : (within : Bool) (lane place : ℕ) →
    entries_in (cond within (silent (Look lane place None) ∷ []) []) ≡ []
empty_entries true lane place = refl
empty_entries false lane place = refl

empty_draws : (within : Bool) (lane place : ℕ) →
    step_count draw_count (steps_in (cond within (silent (Look lane place None) ∷ []) [])) ≡ 0
empty_draws true lane place = refl
empty_draws false lane place = refl

empty_places : (within : Bool) (lane place : ℕ) →
    step_count place_count (steps_in (cond within (silent (Look lane place None) ∷ []) [])) ≡ 0
empty_places true lane place = refl
empty_places false lane place = refl

module _ (names : SessionNames) where
  -- no more is pending than is ahead, for which there is room
  pub few_pending : (pen : PenView) → HasTurnRoom names pen → pending_count (log_half names pen.log) < 2 ^ 32 - 1
  few_pending pen room =
      let within = room.draws_left in omega (arith, within)

  -- a load
  module _ (load : Found) (a b : PenView) (gone : HasGone (silent (Load load) ∷ []) a b) where
    pub loaded_half : log_half names b.log ≡ log_half names a.log
    loaded_half = log_still names (silent (Load load) ∷ []) a b gone refl

    pub loaded_room : HasTurnRoom names a → HasTurnRoom names b
    loaded_room room = room_still names (silent (Load load) ∷ []) a b gone refl refl refl room

  -- a look that saw a note
  pub full_room : (lane place : ℕ) (note : Note) (a b : PenView) → HasGone (looks_full lane place note) a b →
      HasTurnRoom names a → HasTurnRoom names b
  full_room lane place note a b gone room =
      room_still names (looks_full lane place note) a b gone refl refl refl room

  -- a look that saw nothing, if there is a cell
  module _ (lane place : ℕ) (a b : PenView) (gone : HasGone (looks_empty names.script lane place) a b) where
    abbrev within : Bool
    within = nat_lt place (slice_index (cells_of names.script) lane)

    pub empty_half : log_half names b.log ≡ log_half names a.log
    empty_half =
        log_still names (looks_empty names.script lane place) a b gone (empty_entries within lane place)

    pub empty_room : HasTurnRoom names a → HasTurnRoom names b
    empty_room room =
        room_still names (looks_empty names.script lane place) a b gone (empty_entries within lane place)
        (empty_draws within lane place) (empty_places within lane place) room

  -- a look that saw a note
  module _ (at : LaneStanding) (note : Note) (a b : PenView) (seen : HasGone (looks_full at.lane at.place note) a b)
      (works : (log_half names b.log).failed ≡ false) where
    abbrev seen_half : log_half names b.log ≡ log_half names a.log
    seen_half = log_still names (looks_full at.lane at.place note) a b seen refl

    abbrev worked : (log_half names a.log).failed ≡ false
    worked = ap (λ (h : ReactorHalf). h.failed) (sym seen_half) ∙ works

    pub missed_request : (to : LaneStanding) → to ≡ record at { missed = option_or at.missed (Some note.op) } →
        may_take names.script (log_half names b.log) note.op ≡ false →
        MissedRequest names note.op (standing at a) (standing to b)
    missed_request to moved none = record {
      works = worked;
      note = note;
      it = refl;
      none = subst (λ half. may_take names.script half note.op ≡ false) seen_half none;
      gone = seen;
      moved = ap (λ (s : LaneStanding). standing s b) moved;
    }

    -- and a load behind it
    module _ (may : may_take names.script (log_half names b.log) note.op ≡ true) (load : Found) (c : PenView)
        (loaded : HasGone (silent (Load load) ∷ []) b c) where
      abbrev may_before : may_take names.script (log_half names a.log) note.op ≡ true
      may_before = subst (λ half. may_take names.script half note.op ≡ true) seen_half may

      pub may_behind : may_take names.script (log_half names c.log) note.op ≡ true
      may_behind =
          subst (λ half. may_take names.script half note.op ≡ true) (sym (loaded_half load b c loaded)) may

      pub left_request : load.stops ≢ at.base → LeftRequest names (standing at a) (standing at c)
      left_request differ = record {
        works = worked;
        note = note;
        load = load;
        request = may_before;
        stopped = differ;
        gone = left_gone at.lane at.place note load a b c seen loaded;
        moved = refl;
      }

      abbrev behind_half : log_half names c.log ≡ log_half names a.log
      behind_half = loaded_half load b c loaded ∙ seen_half

      -- and a turn
      pub taken_next : (to : LaneStanding) (d : PenView) (fails : Bool) →
          to ≡ record at { place = at.place + 1 } → load.stops ≡ at.base →
          HasTurned names (event.Take note.op) (take_change names.script (log_half names c.log) note.op) fails c d →
          TurnedNext names fails (standing at a) (standing to d)
      taken_next to d fails moved going did =
          let changed : Change = take_change names.script (log_half names a.log) note.op in
          let turn : HasTurned names (event.Take note.op) changed fails c d =
          subst (λ half. HasTurned names (event.Take note.op) (take_change names.script half note.op) fails c d)
          behind_half did in
          record {
            works = worked;
            part = record {
              place = at.place;
              load = load;
              start = takes note changed;
              drawn = turn.drawn;
              end = turn.end;
            };
            at = refl;
            going = going;
            starts = record { request = may_before; changed = refl };
            failing = turn.failing;
            ends =
                subst (λ half.
                EndsTurn names.script names.told
                (reactor_after names.script names.told half (event.Take note.op)) turn.end) behind_half turn.ends;
            gone =
                gone_on (looks_full at.lane at.place note)
                (silent (Load load) ∷ shows (event.Take note.op) changed turn.drawn ∷ end_labels turn.end) a b d seen
                (gone_on (silent (Load load) ∷ [])
                (shows (event.Take note.op) changed turn.drawn ∷ end_labels turn.end) b c d loaded turn.gone);
            moved = ap (λ (s : LaneStanding). standing s d) moved;
          }

  -- a look that saw nothing
  module _ (at : LaneStanding) (a b : PenView) (seen : HasGone (looks_empty names.script at.lane at.place) a b)
      (works : (log_half names b.log).failed ≡ false) where
    abbrev unseen_half : log_half names b.log ≡ log_half names a.log
    unseen_half = empty_half at.lane at.place a b seen

    abbrev working : (log_half names a.log).failed ≡ false
    working = ap (λ (h : ReactorHalf). h.failed) (sym unseen_half) ∙ works

    pub found_none : (at.running ≡ false) ⊎ (pending_count (log_half names b.log) ≡ 0) →
        FoundNoRequest names (standing at a) (standing at b)
    found_none why = record {
      works = working;
      why = subst (λ half. (at.running ≡ false) ⊎ (pending_count half ≡ 0)) unseen_half why;
      gone = seen;
      moved = refl;
    }

    -- and a load behind it
    module _ (runs : at.running ≡ true) (pending : 1 ≤ pending_count (log_half names b.log)) (load : Found)
        (c : PenView) (loaded : HasGone (silent (Load load) ∷ []) b c) where
      abbrev waits : MayWait names (standing at a)
      waits = record {
        works = working;
        runs = runs;
        pending = subst (λ half. 1 ≤ pending_count half) unseen_half pending;
      }

      pub pending_behind : 1 ≤ pending_count (log_half names c.log)
      pending_behind = subst (λ half. 1 ≤ pending_count half) (sym (loaded_half load b c loaded)) pending

      abbrev both : HasGone (looks_empty names.script at.lane at.place ++ silent (Load load) ∷ []) a c
      both =
          gone_on (looks_empty names.script at.lane at.place) (silent (Load load) ∷ []) a b c seen loaded

      pub left_time : load.stops ≢ at.base → LeftTime names (standing at a) (standing at c)
      left_time differ = record {
        waits = waits;
        load = load;
        stopped = differ;
        gone = both;
        moved = refl;
      }

      pub found_work : load.stops ≡ at.base →
          load.work ≢ pending_count (log_half names b.log) + held_guards (log_half names b.log) →
          FoundOtherWork names (standing at a) (standing at c)
      found_work going differ = record {
        waits = waits;
        load = load;
        going = going;
        work = λ same.
            differ
            (subst (λ half. load.work ≡ pending_count half + held_guards half) (sym unseen_half) same);
        gone = both;
        moved = refl;
      }

      -- where nothing else is outstanding time passes
      module _ (going : load.stops ≡ at.base)
          (idle : load.work ≡ pending_count (log_half names b.log) + held_guards (log_half names b.log)) where
        abbrev passed_half : log_half names c.log ≡ log_half names a.log
        passed_half = loaded_half load b c loaded ∙ unseen_half

        abbrev idle_before : IsIdleWork names (standing at a) load.work
        idle_before =
            subst (λ half. load.work ≡ pending_count half + held_guards half) unseen_half idle

        pub passed_next : (d : PenView) (fails : Bool) →
            HasTurned names (point_event (next_time names.script (log_half names c.log))) change.Same fails c d →
            TurnedNext names fails (standing at a) (standing at d)
        passed_next d fails did =
            let half : ReactorHalf = log_half names a.log in
            let turn : HasTurned names (point_event (next_time names.script half)) change.Same fails c d =
            subst (λ h. HasTurned names (point_event (next_time names.script h)) change.Same fails c d) passed_half did in
            let shown : Labelled = shows (point_event (next_time names.script half)) change.Same turn.drawn in
            record {
              works = working;
              part = record {
                place = at.place;
                load = load;
                start = passes (point_event (next_time names.script half));
                drawn = turn.drawn;
                end = turn.end;
              };
              at = refl;
              going = going;
              starts = record { runs = runs; pending = waits.pending; idle = idle_before; next = refl };
              failing = turn.failing;
              ends =
                  subst (λ h.
                  EndsTurn names.script names.told
                  (reactor_after names.script names.told h (point_event (next_time names.script half))) turn.end)
                  passed_half turn.ends;
              gone =
                  subst (λ labels. HasGone labels a d)
                  (sym (append_assoc (looks_empty names.script at.lane at.place) (silent (Load load) ∷ shown ∷ [])
                  (end_labels turn.end)))
                  (gone_on (looks_empty names.script at.lane at.place)
                  (silent (Load load) ∷ shown ∷ end_labels turn.end) a b d seen
                  (gone_on (silent (Load load) ∷ []) (shown ∷ end_labels turn.end) b c d loaded turn.gone));
              moved = refl;
            }

        pub failed_next : (d : PenView) → HasFailedAlone c d → FailedNext names (standing at a) (standing at d)
        failed_next d did = record {
          waits = waits;
          part = record { place = at.place; load = load; drawn = did.drawn };
          at = refl;
          going = going;
          idle = idle_before;
          gone =
              gone_on (looks_empty names.script at.lane at.place) (silent (Load load) ∷ fault_label did.drawn ∷ [])
              a b d seen
              (gone_on (silent (Load load) ∷ []) (fault_label did.drawn ∷ []) b c d loaded did.gone);
          moved = refl;
        }

        -- whichever of both it was
        pub broke_next : (d : PenView) →
            HasTurned names (point_event (next_time names.script (log_half names c.log))) change.Same true c d
            ⊎ HasFailedAlone c d →
            TurnedNext names true (standing at a) (standing at d) ⊎ FailedNext names (standing at a) (standing at d)
        broke_next d (inl did) = inl (passed_next d true did)
        broke_next d (inr did) = inr (failed_next d did)

-- what was asked of the proactor holds at the half of the log
module _ {X : Type 0} (names : SessionNames) (state : X → ReactorState) (told : X → Option Outside) (faults : X → ℕ)
    (named : ℕ) (half : ReactorHalf) (view : ProactorView X) (keeps : KeepsTurns names state told faults named half view)
    (working : view.tables.failed ≡ false) where
  abbrev follows : Follows told view half
  follows = (keeps.turned working).telling.follows

  pub half_works : half.failed ≡ false
  half_works = keeps.failed ∙ working

  pub request_is : (script : ScriptModel) (op : ℕ) (result : Bool) → script ≡ names.script →
      ((half : ReactorHalf) → Follows told view half → result ≡ may_take script half op) → result ≡ true →
      may_take names.script half op ≡ true
  request_is script op result same asked is =
      ap (λ s. may_take s half op) (sym same) ∙ sym (asked half follows) ∙ is

  pub waits_is : (running result : Bool) →
      ((half : ReactorHalf) → Follows told view half → IsTrue result ↔ (IsTrue running × (1 ≤ pending_count half))) →
      result ≡ true → (running ≡ true) × (1 ≤ pending_count half)
  waits_is running result asked is = (asked half follows).0 is

  pub idle_is : (work : ℕ) →
      ((half : ReactorHalf) → Follows told view half → pending_count half < 2 ^ 32 - 1 →
      work ≡ pending_count half + held_guards half) → pending_count half < 2 ^ 32 - 1 →
      work ≡ pending_count half + held_guards half
  idle_is work asked few = asked half follows few

  pub guards_few : IsWellFormed names.script → length view.tables.guards < 256
  guards_few well =
      few_guards names.script well (length view.tables.guards)
      ((keeps.turned working).telling.sound.turning.room.fit.guards ∙ ap (λ (s : ScriptModel). s.guards) keeps.script)

-- a lane that was named by its view
pub from_view : {X : Type 0} (names : SessionNames) (faults : X → ℕ) (one : One) (at : LaneStanding) (a b : PenView)
    (old new : LaneView) (before after : ProactorView X) → standing at a ≡ old →
    TurnCameTo names faults one (with_pen (standing at b) old.pen) new before after →
    TurnCameTo names faults one old new before after
from_view names faults one at a b old new before after same =
    subst (λ (lane : LaneView).
    TurnCameTo names faults one (with_pen (standing at b) lane.pen) new before after →
    TurnCameTo names faults one lane new before after) same (λ came. came)
