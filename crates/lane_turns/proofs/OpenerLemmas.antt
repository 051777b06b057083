-- The opener after steps of its own, and after it took in what another knew.
use Rattle.std.proofs.Common.{◌≡◌, ◌≢◌, ℕ, ◌≤◌, List, [], ◌∷◌, ◌++◌, length, refl, sym, ap, subst, ◌∙◌, arith, length-append}
use mathlib.Core.Logic.{dite}
use native.Mathlib.Decide.{ℕ_discrete}
use Rattle.std.proofs.lemmas.List.{append-nil}
use Rattle.session_script.specs.Script.{ScriptModel}
use Rattle.lane_clock.specs.declared.step.ClockStep.{ClockStep}
use Rattle.lane_clock.specs.declared.step.ClockStep.TheVariants.{Draw, Load, Place, Put, Look, Join}
use Rattle.lane_clock.specs.declared.step.Known.{Known}
use Rattle.lane_clock.specs.Knowledge.{StartOf, counts, steps_at}
use Rattle.lane_clock.specs.Seats.{ClockId, Owns, SeatView, own}
use Rattle.lane_clock.proofs.KeepLemmas.{start_same}
use Rattle.lane_logs.specs.declared.log.LogEntry.{LogEntry}
use Rattle.lane_logs.specs.Knowing.{joined_count, lists_of}
use Rattle.lane_logs.specs.Labels.{Labelled, entries_in, steps_in}
use Rattle.lane_logs.specs.OpenerLog.{AreOpenerParts, OpenerPart, resting, labels_of_opener, opener_steps}
use Rattle.lane_logs.specs.Stand.{draws_to_come, Stand, after_draw, stand_from, stand_of}
use Rattle.lane_logs.specs.SeatNumbers.{opener_seat}
use Rattle.lane_logs.proofs.LabelLemmas.{entries-append, steps-append}
use Rattle.lane_turns.specs.Meeting.{KnowsByJoins, PenHasMet}
use Rattle.lane_turns.specs.Openers.{IsOpener, OpenerView}
use Rattle.lane_turns.specs.Pens.{HasGone, MayGo, PenView}
use Rattle.lane_turns.proofs.MeetingLemmas.{met_clock, met_knows, met_number, met_room}
use Rattle.lane_turns.proofs.OpenerGrowingLemmas.{Knows, still_opened}
use Rattle.lane_turns.proofs.PenLemmas.{gone_clock}
use Rattle.lane_turns.proofs.SteppingLemmas.{joined_on, stepped_known, stepped_number}

pub stand_from-append : (script : ScriptModel) (stand : Stand) (xs ys : List ClockStep) →
    stand_from script stand (xs ++ ys) ≡ stand_from script (stand_from script stand xs) ys
stand_from-append script stand [] ys = refl
stand_from-append script stand (Draw shown change found ∷ xs) ys =
    stand_from-append script (after_draw script stand found) xs ys
stand_from-append script stand (Load found ∷ xs) ys = stand_from-append script stand xs ys
stand_from-append script stand (Place lane place ∷ xs) ys = stand_from-append script stand xs ys
stand_from-append script stand (Put lane place note ∷ xs) ys = stand_from-append script stand xs ys
stand_from-append script stand (Look lane place held ∷ xs) ys = stand_from-append script stand xs ys
stand_from-append script stand (Join taken ∷ xs) ys = stand_from-append script stand xs ys

module _ (script : ScriptModel) (clock : ClockId) (old : OpenerView) (is : IsOpener script clock old) where
  pub own_steps : own old.pen.seat ≡ opener_steps is.log.parts
  own_steps = ap (lists_of old.pen.seat) is.number ∙ is.log.steps

  -- the log took in no more than is known
  pub opener_knows : (longer : ℕ → List ClockStep) (more : (n : ℕ) → StartOf (lists_of old.pen.seat n) (longer n)) →
      Knows script (lists_of old.pen.seat) longer more is.log.parts
  opener_knows longer more n =
      subst (λ steps. joined_count n steps ≤ length (lists_of old.pen.seat n)) own_steps
      (dite (ℕ_discrete n old.pen.seat.number)
      (λ (e : n ≡ old.pen.seat.number).
      subst (λ k. joined_count k (own old.pen.seat) ≤ length (lists_of old.pen.seat k)) (sym e) is.known.itself)
      (λ ne. omega (arith, is.known.others n ne)))

  still_are : (longer : ℕ → List ClockStep) → ((n : ℕ) → StartOf (lists_of old.pen.seat n) (longer n)) →
      AreOpenerParts script longer is.log.parts
  still_are longer more =
      still_opened script (lists_of old.pen.seat) longer more is.log.parts (opener_knows longer more) is.log.are

  -- the opener took in what another knew
  pub opener_meets : (other : SeatView) (pen : PenView) → PenHasMet other old.pen pen →
      IsOpener script clock (record { pen = pen; stand = old.stand })
  opener_meets other pen met =
      let number : pen.seat.number ≡ opener_seat script =
      met_number other old.pen.seat pen.seat met.met ∙ is.number in
      let owned : Owns old.pen.seat old.pen.seat.number =
      subst (Owns old.pen.seat) (sym is.number) is.owns in
      let steps : own pen.seat ≡ own old.pen.seat ++ Join (counts other.known) ∷ [] = met.met.steps in
      record {
        clock_is = met_clock other old.pen.seat pen.seat met.met ∙ is.clock_is;
        number = number;
        owns = met.met.keeps (opener_seat script) is.owns;
        log = record {
          parts = resting (Join (counts other.known)) ∷ is.log.parts;
          are = (still_are (lists_of pen.seat) met.met.remembers, tt);
          steps =
              ap (lists_of pen.seat) (sym number) ∙ steps
              ∙ ap (λ xs. xs ++ Join (counts other.known) ∷ []) own_steps
              ∙ sym (steps-append (labels_of_opener is.log.parts) _);
          shown =
              met.log ∙ is.log.shown ∙ sym (append-nil (entries_in (labels_of_opener is.log.parts)))
              ∙ sym (entries-append (labels_of_opener is.log.parts) _);
        };
        known = met_knows other old.pen.seat pen.seat met.met owned is.known;
        stand_is =
            is.stand_is ∙ sym (stand_from-append script _ (own old.pen.seat) (Join (counts other.known) ∷ []))
            ∙ ap (stand_of script) (sym steps);
        room =
            met_room other old.pen pen (draws_to_come script old.stand) old.stand.opening met is.room;
      }

  -- the opener made labelled steps that took nothing in
  module _ (pen : PenView) (labels : List Labelled) (gone : HasGone labels old.pen pen)
      (quiet : (n : ℕ) → joined_count n (steps_in labels) ≡ 0) where
    gone_number : pen.seat.number ≡ old.pen.seat.number
    gone_number =
        ap (λ (seat : SeatView). seat.number) gone.seat ∙ stepped_number old.pen.seat (steps_in labels)

    same_others : (n : ℕ) → n ≢ old.pen.seat.number → lists_of pen.seat n ≡ lists_of old.pen.seat n
    same_others n ne =
        ap (λ (seat : SeatView). steps_at seat.known n) gone.seat
        ∙ ap (λ (known : Known). known.steps) (stepped_known old.pen.seat (steps_in labels) n ne)

    own_gone : lists_of pen.seat old.pen.seat.number ≡ own old.pen.seat ++ steps_in labels
    own_gone = ap (lists_of pen.seat) (sym gone_number) ∙ gone.steps

    pub gone_grows : (n : ℕ) → StartOf (lists_of old.pen.seat n) (lists_of pen.seat n)
    gone_grows n =
        dite (ℕ_discrete n old.pen.seat.number)
        (λ (e : n ≡ old.pen.seat.number).
        subst (λ k. StartOf (lists_of old.pen.seat k) (lists_of pen.seat k)) (sym e) (steps_in labels, own_gone))
        (λ ne. start_same _ _ (sym (same_others n ne)))

    gone_joined : (n : ℕ) → joined_count n (own pen.seat) ≡ joined_count n (own old.pen.seat)
    gone_joined n = ap (joined_count n) gone.steps ∙ joined_on n (own old.pen.seat) (steps_in labels) (quiet n)

    gone_knows : KnowsByJoins pen.seat
    gone_knows =
        record {
          others =
              λ n ne.
              let apart : n ≢ old.pen.seat.number = λ same. ne (same ∙ sym gone_number) in
              gone_joined n ∙ is.known.others n apart ∙ ap length (sym (same_others n apart));
          itself =
              subst (λ n. joined_count n (own pen.seat) ≤ length (own pen.seat)) (sym gone_number)
              (omega (
                arith,
                gone_joined old.pen.seat.number,
                is.known.itself,
                ap length gone.steps ∙ length-append (own old.pen.seat) (steps_in labels),
              ));
        }

    -- its log goes on by parts that have these labels
    pub opener_goes_on : (stand : Stand) (parts : List OpenerPart) →
        (AreOpenerParts script (lists_of pen.seat) is.log.parts → AreOpenerParts script (lists_of pen.seat) parts) →
        labels_of_opener parts ≡ labels_of_opener is.log.parts ++ labels →
        stand ≡ stand_from script old.stand (steps_in labels) → MayGo pen (draws_to_come script stand) stand.opening →
        IsOpener script clock (record { pen = pen; stand = stand })
    opener_goes_on stand parts follows same stands room =
        let steps : own old.pen.seat ++ steps_in labels ≡ opener_steps parts =
        ap (λ xs. xs ++ steps_in labels) own_steps ∙ sym (steps-append (labels_of_opener is.log.parts) labels)
        ∙ ap steps_in (sym same) in
        record {
          clock_is = gone_clock labels old.pen pen gone ∙ is.clock_is;
          number = gone_number ∙ is.number;
          owns = gone.keeps (opener_seat script) is.owns;
          log = record {
            parts = parts;
            are = follows (still_are (lists_of pen.seat) gone_grows);
            steps = ap (lists_of pen.seat) (sym is.number) ∙ own_gone ∙ steps;
            shown =
                gone.log ∙ ap (λ (log : List LogEntry). log ++ entries_in labels) is.log.shown
                ∙ sym (entries-append (labels_of_opener is.log.parts) labels) ∙ ap entries_in (sym same);
          };
          known = gone_knows;
          stand_is =
              stands ∙ ap (λ s. stand_from script s (steps_in labels)) is.stand_is
              ∙ sym (stand_from-append script _ (own old.pen.seat) (steps_in labels))
              ∙ ap (stand_of script) (sym gone.steps);
          room = room;
        }
