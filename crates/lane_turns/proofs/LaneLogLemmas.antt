-- A lane's log goes on by a part, and the lane with it.
use Rattle.std.proofs.Common.{◌≡◌, ℕ, List, ◌∷◌, ◌++◌, length, sym, ap, subst, ◌∙◌}
use Rattle.std.proofs.lemmas.List.{append_assoc}
use Rattle.std.specs.Prelude.{Option}
use Rattle.std.specs.Option.{option_or}
use Rattle.lane_clock.specs.declared.found.Found.{Found}
use Rattle.lane_clock.specs.declared.step.ClockStep.{ClockStep}
use Rattle.lane_clock.specs.Seats.{ClockId, SeatView, own}
use Rattle.lane_logs.specs.declared.log.LogEntry.{LogEntry}
use Rattle.lane_logs.specs.Knowing.{joined_count}
use Rattle.lane_logs.specs.Labels.{Labelled, entries_in, steps_in}
use Rattle.lane_logs.specs.LaneLog.{AreParts, FoundGoing, IsLaneLog, MayFollow, opener_after, steps_after}
use Rattle.lane_logs.specs.Names.{SessionNames}
use Rattle.lane_logs.specs.Parts.{Part, labels_in, labels_of, missed_in, next_place}
use Rattle.lane_logs.specs.SeatNumbers.{opener_seat}
use Rattle.lane_logs.specs.Stand.{base_of, is_running_round}
use Rattle.lane_logs.proofs.LabelLemmas.{entries-append, steps-append}
use Rattle.lane_turns.specs.Batons.{IsLane, LaneView, opener_known}
use Rattle.lane_turns.specs.Pens.{HasGone, PenView}
use Rattle.lane_turns.proofs.PenLemmas.{gone_clock}
use Rattle.lane_turns.proofs.SteppingLemmas.{joined_on, knows_all, opener_same, stepped_number}

module _ (names : SessionNames) (opener : List ClockStep) (lane : ℕ) where
  -- by one part
  abbrev pub part_log : (steps : List ClockStep) (entries : List LogEntry) (missed now : Option ℕ)
      (log : IsLaneLog names opener lane steps entries missed) (part : Part) →
      MayFollow names opener lane log.parts part → now ≡ option_or missed (missed_in part) →
      IsLaneLog names opener lane (steps ++ steps_in (labels_in names.script lane part))
      (entries ++ entries_in (labels_in names.script lane part)) now
  part_log steps entries missed now log part follows same =
      record {
        parts = part ∷ log.parts;
        are = (log.are, follows);
        steps =
            ap (λ before. before ++ steps_in (labels_in names.script lane part)) log.steps
            ∙ sym (steps-append (labels_of names.script lane log.parts) (labels_in names.script lane part));
        shown =
            ap (λ before. before ++ entries_in (labels_in names.script lane part)) log.shown
            ∙ sym (entries-append (labels_of names.script lane log.parts) (labels_in names.script lane part));
        first = same ∙ ap (λ before. option_or before (missed_in part)) log.first;
      }

  -- by two parts
  abbrev pub parts_log : (steps : List ClockStep) (entries : List LogEntry) (missed then now : Option ℕ)
      (log : IsLaneLog names opener lane steps entries missed) (one two : Part) →
      MayFollow names opener lane log.parts one → then ≡ option_or missed (missed_in one) →
      MayFollow names opener lane (one ∷ log.parts) two → now ≡ option_or then (missed_in two) →
      IsLaneLog names opener lane
      (steps ++ steps_in (labels_in names.script lane one ++ labels_in names.script lane two))
      (entries ++ entries_in (labels_in names.script lane one ++ labels_in names.script lane two)) now
  parts_log steps entries missed then now log one two first same second too =
      let xs : List Labelled = labels_in names.script lane one in
      let ys : List Labelled = labels_in names.script lane two in
      let both = part_log _ _ then now (part_log steps entries missed then log one first same) two second too in
      record {
        parts = two ∷ one ∷ log.parts;
        are = ((log.are, first), second);
        steps =
            ap (λ more. steps ++ more) (steps-append xs ys) ∙ sym (append_assoc steps (steps_in xs) (steps_in ys))
            ∙ both.steps;
        shown =
            ap (λ more. entries ++ more) (entries-append xs ys)
            ∙ sym (append_assoc entries (entries_in xs) (entries_in ys)) ∙ both.shown;
        first = both.first;
      }

-- a lane after steps of its own by which its log went on
pub lane_goes_on : (names : SessionNames) (clock : ClockId) (old : LaneView) (labels : List Labelled) (pen : PenView)
    (place : ℕ) (missed : Option ℕ) → IsLane names clock old → HasGone labels old.pen pen →
    joined_count (opener_seat names.script) (steps_in labels) ≡ 0 →
    (log : IsLaneLog names (opener_known names.script old.pen.seat) old.lane (own old.pen.seat ++ steps_in labels)
    (old.pen.log ++ entries_in labels) missed) →
    place ≡ next_place log.parts →
    IsLane names clock (record {
      lane = old.lane;
      pen = pen;
      place = place;
      base = old.base;
      running = old.running;
      missed = missed;
    })
lane_goes_on names clock old labels pen place missed is gone quiet log next =
    let knows : opener_known names.script pen.seat ≡ opener_known names.script old.pen.seat =
    opener_same names.script old.lane labels old.pen pen is.number is.there gone in
    record {
      clock_is = gone_clock labels old.pen pen gone ∙ is.clock_is;
      number =
          ap (λ (seat : SeatView). seat.number) gone.seat ∙ stepped_number old.pen.seat (steps_in labels) ∙ is.number;
      owns = gone.keeps old.lane is.owns;
      there = is.there;
      log = record {
        parts = log.parts;
        are = subst (λ opener. AreParts names opener old.lane log.parts) (sym knows) log.are;
        steps = gone.steps ∙ log.steps;
        shown = gone.log ∙ log.shown;
        first = log.first;
      };
      next = next;
      known =
          ap (joined_count (opener_seat names.script)) gone.steps
          ∙ joined_on (opener_seat names.script) (own old.pen.seat) (steps_in labels) quiet ∙ is.known
          ∙ ap length (sym knows);
      base_is = is.base_is ∙ ap (base_of names.script) (sym knows);
      running_is = is.running_is ∙ ap (is_running_round names.script) (sym knows);
    }

-- what a lane knows of the opener is what its parts took in
pub opener_is : (names : SessionNames) (clock : ClockId) (old : LaneView) (is : IsLane names clock old) →
    opener_known names.script old.pen.seat
    ≡ opener_after names (opener_known names.script old.pen.seat) old.lane is.log.parts
opener_is names clock old is =
    sym (knows_all (opener_seat names.script) (opener_known names.script old.pen.seat)
    (steps_after names (opener_known names.script old.pen.seat) old.lane is.log.parts)
    (ap (joined_count (opener_seat names.script)) (sym is.log.steps) ∙ is.known))

-- a load that found the lane's base found no stop since the last restart
pub found_going : (names : SessionNames) (clock : ClockId) (old : LaneView) (is : IsLane names clock old)
    (load : Found) → load.stops ≡ old.base →
    FoundGoing names (opener_known names.script old.pen.seat) old.lane is.log.parts load
found_going names clock old is load same =
    same ∙ is.base_is ∙ ap (base_of names.script) (opener_is names clock old is)
