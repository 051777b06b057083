-- A lane after looks and loads that led to nothing.
use Rattle.std.proofs.Common.{◌≡◌, ℕ, ◌+◌, ◌<◌, Bool, true, false, cond, List, [], ◌∷◌, ◌++◌, Option, Some, None, refl, sym, ap, subst, ◌∙◌, arith}
use Rattle.std.specs.Option.{option_or}
use Rattle.std.proofs.lemmas.List.{append-nil}
use Rattle.lane_clock.specs.declared.found.Found.{Found}
use Rattle.lane_clock.specs.declared.note.Note.{Note}
use Rattle.lane_clock.specs.declared.step.ClockStep.{ClockStep}
use Rattle.lane_clock.specs.declared.step.ClockStep.TheVariants.{Load, Look}
use Rattle.lane_clock.specs.Seats.{ClockId, own}
use Rattle.lane_map.specs.LaneNumbers.{reactor_lane}
use Rattle.lane_logs.specs.Half.{half_of}
use Rattle.lane_logs.specs.Labels.{silent}
use Rattle.lane_logs.specs.LaneLog.{may_execute}
use Rattle.lane_logs.specs.Names.{SessionNames}
use Rattle.lane_logs.specs.Parts.{are_broken, idle, looks_full, missing, next_place}
use Rattle.lane_logs.specs.ReactorTurns.{may_take}
use Rattle.lane_turns.specs.Batons.{IsLane, LaneView, opener_known}
use Rattle.lane_turns.specs.Pens.{HasGone, PenView}
use Rattle.lane_turns.specs.Polling.{left_labels, missed_too, with_pen}
use Rattle.lane_turns.specs.Turning.{log_half}
use Rattle.lane_turns.proofs.LaneLogLemmas.{lane_goes_on, part_log, parts_log}

pub or_none : (missed : Option ℕ) → missed ≡ option_or missed None
or_none None = refl
or_none (Some op) = refl

module _ (names : SessionNames) (clock : ClockId) (old : LaneView) (is : IsLane names clock old) (pen : PenView) where
  abbrev opener : List ClockStep
  opener = opener_known names.script old.pen.seat

  still_next : old.place ≡ next_place is.log.parts + 0
  still_next = let e : next_place is.log.parts ≡ next_place is.log.parts + 0 = omega arith in is.next ∙ e

  still_next_twice : old.place ≡ next_place is.log.parts + 0 + 0
  still_next_twice = let e : next_place is.log.parts ≡ next_place is.log.parts + 0 + 0 = omega arith in is.next ∙ e

  -- after a look that saw nothing, if there is a cell
  pub lane_looked : (within : Bool) →
      HasGone (cond within (silent (Look old.lane old.place None) ∷ []) []) old.pen pen →
      IsLane names clock (with_pen old pen)
  lane_looked true gone =
      lane_goes_on names clock old (silent (Look old.lane old.place None) ∷ []) pen old.place old.missed is gone refl
      (part_log names opener old.lane (own old.pen.seat) old.pen.log old.missed old.missed is.log
      (idle (Look old.lane old.place None)) (refl, is.next) (or_none old.missed)) still_next
  lane_looked false gone =
      lane_goes_on names clock old [] pen old.place old.missed is gone refl
      record {
        parts = is.log.parts;
        are = is.log.are;
        steps = append-nil (own old.pen.seat) ∙ is.log.steps;
        shown = append-nil old.pen.log ∙ is.log.shown;
        first = is.log.first;
      }
      is.next

  -- after a load
  pub lane_loaded : (load : Found) → HasGone (silent (Load load) ∷ []) old.pen pen →
      IsLane names clock (with_pen old pen)
  lane_loaded load gone =
      lane_goes_on names clock old (silent (Load load) ∷ []) pen old.place old.missed is gone refl
      (part_log names opener old.lane (own old.pen.seat) old.pen.log old.missed old.missed is.log
      (idle (Load load)) tt (or_none old.missed)) still_next

  -- after both
  pub lane_looked_on : (within : Bool) (load : Found) →
      HasGone (cond within (silent (Look old.lane old.place None) ∷ []) [] ++ silent (Load load) ∷ []) old.pen pen →
      IsLane names clock (with_pen old pen)
  lane_looked_on true load gone =
      lane_goes_on names clock old (silent (Look old.lane old.place None) ∷ silent (Load load) ∷ []) pen old.place
      old.missed is gone refl
      (parts_log names opener old.lane (own old.pen.seat) old.pen.log old.missed old.missed old.missed is.log
      (idle (Look old.lane old.place None)) (idle (Load load)) (refl, is.next) (or_none old.missed) tt
      (or_none old.missed)) still_next_twice
  lane_looked_on false load gone = lane_loaded load gone

  -- after a look that saw a note, and a load behind it
  pub lane_left : (note : Note) (load : Found) → HasGone (left_labels old.lane old.place note load) old.pen pen →
      IsLane names clock (with_pen old pen)
  lane_left note load gone =
      lane_goes_on names clock old (left_labels old.lane old.place note load) pen old.place old.missed is gone refl
      (parts_log names opener old.lane (own old.pen.seat) old.pen.log old.missed old.missed old.missed is.log
      (idle (Look old.lane old.place (Some note))) (idle (Load load)) (refl, is.next) (or_none old.missed) tt
      (or_none old.missed)) still_next_twice

  -- after a look that saw what the lane doesn't have: the first is a part of its own, a later one a look
  module _ (note : Note) (working : are_broken is.log.parts ≡ false)
      (no_handler : old.lane < reactor_lane names.script → may_execute names old.lane old.pen.log note.op ≡ false)
      (no_request : old.lane ≡ reactor_lane names.script →
      may_take names.script (log_half names old.pen.log) note.op ≡ false)
      (gone : HasGone (looks_full old.lane old.place note) old.pen pen) where
    by_first : (missed : Option ℕ) → old.missed ≡ missed → IsLane names clock (missed_too old pen note.op)
    by_first None none =
        lane_goes_on names clock old (looks_full old.lane old.place note) pen old.place
        (option_or old.missed (Some note.op)) is gone refl
        (part_log names opener old.lane (own old.pen.seat) old.pen.log old.missed (option_or old.missed (Some note.op))
        is.log (missing old.place note)
        record {
          first = sym is.log.first ∙ none;
          working = working;
          next = is.next;
          no_handler = λ strand.
              subst (λ log. may_execute names old.lane log note.op ≡ false) is.log.shown (no_handler strand);
          no_request = λ same.
              subst (λ log. may_take names.script (half_of names.script names.told log) note.op ≡ false) is.log.shown
              (no_request same);
        }
        refl) still_next
    by_first (Some first) some =
        lane_goes_on names clock old (looks_full old.lane old.place note) pen old.place
        (option_or old.missed (Some note.op)) is gone refl
        (part_log names opener old.lane (own old.pen.seat) old.pen.log old.missed (option_or old.missed (Some note.op))
        is.log (idle (Look old.lane old.place (Some note))) (refl, is.next)
        (ap (λ m. option_or m (Some note.op)) some ∙ sym some ∙ or_none old.missed)) still_next

    pub lane_missed : IsLane names clock (missed_too old pen note.op)
    lane_missed = by_first old.missed refl
