-- An attempt at a lane, put together of what its steps are.
use Rattle.std.proofs.Common.{◌≡◌, ◌≢◌, ℕ, ◌+◌, Bool, true, false, cond, List, [], ◌∷◌, Some, None, length, refl, ap, arith}
use Rattle.std.specs.Option.{option_or}
use Rattle.op_handlers.specs.Marks.{Marks}
use Rattle.strand_core.specs.Answer.{CanExecute}
use Rattle.strand_core.specs.Hands.{Held}
use Rattle.lane_clock.specs.declared.found.Found.{Found}
use Rattle.lane_clock.specs.declared.note.Note.{Note}
use Rattle.lane_clock.specs.declared.step.ClockStep.TheVariants.{Load, Look}
use Rattle.lane_clock.specs.Steps.{draw_count, place_count, step_count}
use Rattle.lane_logs.specs.Labels.{Labelled, silent, entries_in, steps_in}
use Rattle.lane_logs.specs.Parts.{looks_full}
use Rattle.lane_turns.specs.declared.lane.LaneStanding.{LaneStanding}
use Rattle.lane_turns.specs.Batons.{LaneView}
use Rattle.lane_turns.specs.Executing.{HasExecutedNoted}
use Rattle.lane_turns.specs.Pens.{HasGone, MayGo, PenView}
use Rattle.lane_turns.specs.Polling.{MissedNext, RanNext, StoppedNext, left_labels}
use Rattle.lane_turns.proofs.PenLemmas.{gone_on, may_go_on}

-- steps that show nothing leave the room
quiet_room : (labels : List Labelled) (n : ℕ) (old new : PenView) → length (entries_in labels) ≡ 0 →
    step_count draw_count (steps_in labels) ≡ 0 → step_count place_count (steps_in labels) ≡ 0 →
    HasGone labels old new → MayGo old n n → MayGo new n n
quiet_room labels n old new entries draws places gone may =
    may_go_on labels n n n n old new gone may (omega (arith, entries)) (omega (arith, draws)) (omega (arith, places))

pub looked_room : (within : Bool) (lane place n : ℕ) (old new : PenView) →
    HasGone (cond within (silent (Look lane place None) ∷ []) []) old new → MayGo old n n → MayGo new n n
looked_room true lane place n old new gone may =
    quiet_room (silent (Look lane place None) ∷ []) n old new refl refl refl gone may
looked_room false lane place n old new gone may = quiet_room [] n old new refl refl refl gone may

pub left_gone : (lane place : ℕ) (note : Note) (load : Found) (a b c : PenView) →
    HasGone (looks_full lane place note) a b → HasGone (silent (Load load) ∷ []) b c →
    HasGone (left_labels lane place note load) a c
left_gone lane place note load a b c first second =
    gone_on (looks_full lane place note) (silent (Load load) ∷ []) a b c first second

pub left_room : (lane place : ℕ) (note : Note) (load : Found) (n : ℕ) (a c : PenView) →
    HasGone (left_labels lane place note load) a c → MayGo a n n → MayGo c n n
left_room lane place note load n a c gone may =
    quiet_room (left_labels lane place note load) n a c refl refl refl gone may

-- a lane that stands so, with its pen
abbrev pub standing : LaneStanding → PenView → LaneView
standing at pen = record {
  lane = at.lane;
  pen = pen;
  place = at.place;
  base = at.base;
  running = at.running;
  missed = at.missed;
}

pub seen_room : (lane place : ℕ) (note : Note) (n : ℕ) (a b : PenView) → HasGone (looks_full lane place note) a b →
    MayGo a n n → MayGo b n n
seen_room lane place note n a b gone may = quiet_room (looks_full lane place note) n a b refl refl refl gone may

pub stopped_seen : {H : Type 0} (at : LaneStanding) (note : Note) (load : Found) (a c : PenView) (held : Held H) →
    CanExecute held note.op → load.stops ≢ at.base → HasGone (left_labels at.lane at.place note load) a c →
    StoppedNext (standing at a) (standing at c) held held
stopped_seen at note load a c held can differ gone =
    record {
      note = note;
      load = load;
      can = can;
      stopped = differ;
      gone = gone;
      moved = refl;
      same = refl;
    }

pub ran_seen : {H : Type 0} (marks : H → Marks) (mark : ℕ) (at to : LaneStanding) (note : Note) (load : Found)
    (a b c d : PenView) (held left : Held H) → to ≡ record at { place = at.place + 1 } →
    load.stops ≡ at.base → HasGone (looks_full at.lane at.place note) a b →
    HasGone (silent (Load load) ∷ []) b c → HasExecutedNoted marks note mark c d held left → left.script ≡ held.script →
    RanNext marks note.op mark (standing at a) (standing to d) held left
ran_seen marks mark at to note load a b c d held left moved going seen loaded did script =
    record {
      part = record {
        place = at.place;
        note = note;
        load = load;
        calls = did.calls;
        labels = did.drawn.labels;
      };
      it = refl;
      at = refl;
      going = going;
      whole = did.whole;
      answered = did.answered;
      drawn = did.drawn.drawn;
      gone =
          gone_on (looks_full at.lane at.place note) (silent (Load load) ∷ did.drawn.labels) a b d seen
          (gone_on (silent (Load load) ∷ []) did.drawn.labels b c d loaded did.drawn.gone);
      moved = ap (λ (s : LaneStanding). standing s d) moved;
      spent = did.spent;
      script = script;
    }

pub missed_seen : {H : Type 0} (at to : LaneStanding) (note : Note) (a b : PenView) (held : Held H) →
    to ≡ record at { missed = option_or at.missed (Some note.op) } → (CanExecute held note.op → ⊥) →
    HasGone (looks_full at.lane at.place note) a b → MissedNext note.op (standing at a) (standing to b) held held
missed_seen at to note a b held moved cannot gone =
    record {
      note = note;
      it = refl;
      cannot = cannot;
      gone = gone;
      moved = ap (λ (s : LaneStanding). standing s b) moved;
      same = refl;
    }
