-- What the opener and another know after they met.
use Rattle.std.proofs.Common.{◌≡◌, refl, sym, ap, subst}
use Rattle.session_script.specs.Script.{ScriptModel}
use Rattle.lane_clock.specs.Knowledge.{StartOf}
use Rattle.lane_clock.specs.Seats.{ClockId, SeatView, copy_seat, own}
use Rattle.lane_logs.specs.Knowing.{lists_of}
use Rattle.lane_logs.specs.SeatNumbers.{opener_seat}
use Rattle.lane_turns.specs.Meeting.{PenHasMet}
use Rattle.lane_turns.specs.Openers.{HasTakenIn, HaveMet, IsOpener, OpenerView}
use Rattle.lane_turns.specs.Pens.{PenView}
use Rattle.lane_turns.proofs.MeetingLemmas.{copied_steps}

module _ (script : ScriptModel) (clock : ClockId) (old : OpenerView) (is : IsOpener script clock old) where
  pub taken_in : (copy other : SeatView) (pen : PenView) → copy ≡ copy_seat other → PenHasMet copy old.pen pen →
      HasTakenIn script other old (record { pen = pen; stand = old.stand })
  taken_in copy other pen same met =
      let here : PenHasMet (copy_seat other) old.pen pen =
      subst (λ seat. PenHasMet seat old.pen pen) same met in
      record {
        met = here;
        stand = refl;
        behind =
            subst (λ steps. StartOf steps (own old.pen.seat)) (copied_steps other.known (opener_seat script))
            (subst (λ steps. StartOf (lists_of (copy_seat other) (opener_seat script)) steps)
            (ap (lists_of old.pen.seat) (sym is.number)) (here.met.whole (opener_seat script) is.owns));
      }

  pub both_met : (first second : SeatView) (before after pen : PenView) → first ≡ copy_seat old.pen.seat →
      PenHasMet first before after → second ≡ copy_seat after.seat → PenHasMet second old.pen pen →
      HaveMet script old (record { pen = pen; stand = old.stand }) before.seat after.seat
  both_met first second before after pen one told two heard =
      record {
        told = (subst (λ seat. PenHasMet seat before after) one told).met;
        heard = taken_in second after.seat pen two heard;
        stand_is = is.stand_is;
      }
