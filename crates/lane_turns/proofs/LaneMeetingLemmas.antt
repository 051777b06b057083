-- A lane after it took in what the opener knew.
use Rattle.std.proofs.Common.{◌≡◌, ◌≢◌, ⊎_elim, ◌+◌, [], ◌∷◌, ◌++◌, sym, ap, subst, ◌∙◌, arith}
use Rattle.std.proofs.lemmas.List.{append-nil}
use Rattle.lane_clock.specs.declared.step.ClockStep.TheVariants.{Join}
use Rattle.lane_clock.specs.Knowledge.{StartOf, counts}
use Rattle.lane_clock.specs.Seats.{ClockId, SeatView, copy_seat, own}
use Rattle.lane_clock.proofs.KeepLemmas.{start_same}
use Rattle.session_script.specs.Script.{ScriptModel}
use Rattle.lane_logs.specs.LaneLog.{IsLaneLog}
use Rattle.lane_logs.specs.Knowing.{lists_of}
use Rattle.lane_logs.specs.Names.{SessionNames}
use Rattle.lane_logs.specs.Parts.{idle, next_place}
use Rattle.lane_logs.specs.SeatNumbers.{opener_seat}
use Rattle.lane_logs.specs.Stand.{base_of, is_running_round}
use Rattle.lane_turns.specs.Batons.{IsLane, LaneView, opener_known}
use Rattle.lane_turns.specs.Meeting.{HasMet, PenHasMet}
use Rattle.lane_turns.specs.Openers.{in_round, round_after}
use Rattle.lane_turns.specs.Pens.{PenView}
use Rattle.lane_turns.proofs.LaneStepLemmas.{or_none}
use Rattle.lane_turns.proofs.GrowingLemmas.{log_grows}
use Rattle.lane_turns.proofs.LaneLogLemmas.{part_log}
use Rattle.lane_turns.proofs.MeetingLemmas.{copied_steps, met_clock, met_either, met_known, met_number, start_both}

-- who takes in what the opener knows, and knew no more of the opener, knows all that it did
pub knows_opener : (script : ScriptModel) (opener old new : SeatView) → opener.number ≡ opener_seat script →
    old.number ≢ opener_seat script → HasMet (copy_seat opener) old new →
    StartOf (opener_known script old) (own opener) → opener_known script new ≡ own opener
knows_opener script opener old new number apart met behind =
    let told : lists_of (copy_seat opener) (opener_seat script) ≡ own opener =
    copied_steps opener.known (opener_seat script) ∙ ap (lists_of opener) (sym number) in
    let apart' : opener_seat script ≢ old.number = λ same. apart (sym same) in
    start_both (opener_known script new) (own opener)
    (⊎_elim
    (λ (same : opener_known script new ≡ opener_known script old).
    subst (λ steps. StartOf steps (own opener)) (sym same) behind)
    (λ (same : opener_known script new ≡ lists_of (copy_seat opener) (opener_seat script)).
    start_same (opener_known script new) (own opener) (same ∙ told))
    (met_either (copy_seat opener) old new met (opener_seat script) apart'))
    (subst (λ steps. StartOf steps (opener_known script new)) told (met.learns (opener_seat script)))

module _ (names : SessionNames) (clock : ClockId) (opener : SeatView) (old : LaneView) (pen : PenView)
    (number : opener.number ≡ opener_seat names.script) (is : IsLane names clock old)
    (met : PenHasMet (copy_seat opener) old.pen pen)
    (behind : StartOf (opener_known names.script old.pen.seat) (own opener)) where
  apart : old.pen.seat.number ≢ opener_seat names.script
  apart same = absurd (omega (arith, same, is.number, is.there))

  knows : opener_known names.script pen.seat ≡ own opener
  knows = knows_opener names.script opener old.pen.seat pen.seat number apart met.met behind

  more : StartOf (opener_known names.script old.pen.seat) (opener_known names.script pen.seat)
  more = met.met.remembers (opener_seat names.script)

  abbrev met_log : IsLaneLog names (opener_known names.script pen.seat) old.lane
      (own old.pen.seat ++ Join (counts (copy_seat opener).known) ∷ []) (old.pen.log ++ []) old.missed
  met_log =
      part_log names (opener_known names.script pen.seat) old.lane (own old.pen.seat) old.pen.log old.missed old.missed
      (log_grows names (opener_known names.script old.pen.seat) (opener_known names.script pen.seat) old.lane more
      (own old.pen.seat) old.pen.log old.missed (omega (arith, is.known)) is.log)
      (idle (Join (counts (copy_seat opener).known))) tt (or_none old.missed)

  -- a lane that took in the opener's steps stands where the rounds stand after these
  pub lane_meets : IsLane names clock (in_round old pen (round_after names.script (own opener)))
  lane_meets =
      record {
        clock_is = met_clock _ old.pen.seat pen.seat met.met ∙ is.clock_is;
        number = met_number _ old.pen.seat pen.seat met.met ∙ is.number;
        owns = met.met.keeps old.lane is.owns;
        there = is.there;
        log = record {
          parts = met_log.parts;
          are = met_log.are;
          steps = met.met.steps ∙ met_log.steps;
          shown = met.log ∙ sym (append-nil old.pen.log) ∙ met_log.shown;
          first = met_log.first;
        };
        next = let e : next_place is.log.parts ≡ next_place is.log.parts + 0 = omega arith in is.next ∙ e;
        known =
            met_known _ old.pen.seat pen.seat met.met (opener_seat names.script) (λ same. apart (sym same)) is.known;
        base_is = ap (base_of names.script) (sym knows);
        running_is = ap (is_running_round names.script) (sym knows);
      }
