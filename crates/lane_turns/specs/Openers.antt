-- The opener: who makes the calls of `open`, and closes and restarts rounds (Asio reference,
-- io_context::run, ::poll, ::restart).
use Rattle.std.specs.Prelude.{◌≡◌, Bool, List}
use Rattle.session_script.specs.Script.{ScriptModel}
use Rattle.history_rules.specs.Rounds.{runs}
use Rattle.lane_clock.specs.declared.step.ClockStep.{ClockStep}
use Rattle.lane_clock.specs.Knowledge.{StartOf}
use Rattle.lane_clock.specs.Seats.{ClockId, Owns, SeatView, copy_seat, own}
use Rattle.lane_logs.specs.Knowing.{lists_of}
use Rattle.lane_logs.specs.OpenerLog.{IsOpenerLog}
use Rattle.lane_logs.specs.SeatNumbers.{opener_seat}
use Rattle.lane_logs.specs.Stand.{Stand, round_at, stand_of, base_at, draws_to_come}
use Rattle.lane_turns.specs.declared.standing.RoundNow.{RoundNow}
use Rattle.lane_turns.specs.declared.standing.RoundStanding.{RoundStanding}
use Rattle.lane_turns.specs.Batons.{LaneView, opener_known}
use Rattle.lane_turns.specs.Meeting.{HasMet, KnowsByJoins, PenHasMet}
use Rattle.lane_turns.specs.Pens.{MayGo, PenView}

-- where the rounds stand, as it is kept
abbrev pub stand_at : RoundStanding → Stand
stand_at at = record {
  opening = at.opening;
  closings = at.closings;
  restarted = at.restarted;
  base = at.base;
}

pub record OpenerView : Type 0 where
  pub pen : PenView
  pub stand : Stand

-- The opener, whose log has the calls of `open` and the events of rounds
pub record IsOpener (script : ScriptModel) (clock : ClockId) (view : OpenerView) : Type 0 where
  pub clock_is : view.pen.seat.clock ≡ clock
  pub number : view.pen.seat.number ≡ opener_seat script
  pub owns : Owns view.pen.seat (opener_seat script)
  pub log : IsOpenerLog script (lists_of view.pen.seat) view.pen.log
  pub known : KnowsByJoins view.pen.seat
  pub stand_is : view.stand ≡ stand_of script (own view.pen.seat)
  -- places are drawn for the calls of `open` alone, and no more than draws
  pub room : MayGo view.pen (draws_to_come script view.stand) view.stand.opening

-- the opener took in what a lane or a worker knew, who knew no more of the opener than that did
pub record HasTakenIn (script : ScriptModel) (other : SeatView) (old new : OpenerView)
    : Type 0 where
  pub met : PenHasMet (copy_seat other) old.pen new.pen
  pub stand : new.stand ≡ old.stand
  pub behind : StartOf (opener_known script other) (own old.pen.seat)

-- a lane or a worker took in what the opener knew, and then the opener what that knew
pub record HaveMet (script : ScriptModel) (old new : OpenerView) (before after : SeatView)
    : Type 0 where
  pub told : HasMet (copy_seat old.pen.seat) before after
  pub heard : HasTakenIn script after old new
  pub stand_is : old.stand ≡ stand_of script (own old.pen.seat)

abbrev pub is_running_at : ScriptModel → Stand → Bool
is_running_at script stand = runs (round_at script stand)

-- what lanes and workers keep of where the rounds stand
abbrev pub round_of : ScriptModel → Stand → RoundNow
round_of script stand = record {
  closings = stand.closings;
  restarted = stand.restarted;
  base = base_at script stand;
  running = is_running_at script stand;
}

-- and after these steps of the opener
abbrev pub round_after : ScriptModel → List ClockStep → RoundNow
round_after script steps = round_of script (stand_of script steps)

-- a lane with its pen, in a round
abbrev pub in_round : LaneView → PenView → RoundNow → LaneView
in_round lane pen round = record {
  lane = lane.lane;
  pen = pen;
  place = lane.place;
  base = round.base;
  running = round.running;
  missed = lane.missed;
}
