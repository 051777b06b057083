-- The opener takes in the seats of lanes and workers for good, when the context is finished, so that
-- it goes on with all that they did (the means are this project's own).
use Rattle.std.specs.Prelude.{◌≡◌, List, All, length}
use Rattle.session_script.specs.Script.{ScriptModel}
use Rattle.lane_clock.specs.Knowledge.{StartOf}
use Rattle.lane_clock.specs.Seats.{IsSourceOf, Keeps, Owns, Remembers, SeatView, own}
use Rattle.lane_logs.specs.AtRest.{RestsFrom}
use Rattle.lane_logs.specs.Cuts.{EventsAreCuts}
use Rattle.lane_logs.specs.Knowing.{lists_of}
use Rattle.lane_logs.specs.SeatNumbers.{opener_seat}
use Rattle.lane_turns.specs.Batons.{opener_known}
use Rattle.lane_turns.specs.Meeting.{PenHasMet}
use Rattle.lane_turns.specs.Openers.{OpenerView}
use Rattle.lane_turns.specs.Pens.{PenView}

-- the opener took in another's seat, and owns what that owned
pub record HasJoined (script : ScriptModel) (other : SeatView) (old new : OpenerView)
    : Type 0 where
  pub number : old.pen.seat.number ≡ opener_seat script
  pub owns : Owns old.pen.seat (opener_seat script)
  pub met : PenHasMet other old.pen new.pen
  pub stand : new.stand ≡ old.stand
  pub takes : Keeps other new.pen.seat
  pub theirs : IsSourceOf other old.pen.seat

-- the opener goes on with a seat's steps, and knows them all; the seat knew no more of the opener
-- than that did
pub record IsTakenIn (script : ScriptModel) (opener : OpenerView) (seat : SeatView) : Type 0 where
  pub owns : Owns opener.pen.seat seat.number
  pub all : lists_of opener.pen.seat seat.number ≡ own seat
  pub behind : StartOf (opener_known script seat) (lists_of opener.pen.seat (opener_seat script))

-- the seats of these pens were taken in, and what held of the opener still does
pub record AreTakenIn (script : ScriptModel) (pens : List PenView) (old new : OpenerView)
    : Type 0 where
  pub taken : All (λ pen. IsTakenIn script new pen.seat) pens
  pub remembers : Remembers old.pen.seat new.pen.seat
  pub log : new.pen.log ≡ old.pen.log
  pub stand : new.stand ≡ old.stand
  pub cuts : EventsAreCuts script (lists_of old.pen.seat) → EventsAreCuts script (lists_of new.pen.seat)
  -- that is all that it did
  pub resting : RestsFrom script (lists_of new.pen.seat) (length (lists_of old.pen.seat (opener_seat script)))
