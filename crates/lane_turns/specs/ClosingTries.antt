-- What one try to close a round came to, with the values of all lanes on the bench (Asio reference,
-- io_context::run, ::poll, ::stopped).
use Rattle.std.specs.Prelude.{ℕ, List}
use Rattle.lane_turns.specs.declared.closing.Closing.{Closing}
use Rattle.lane_turns.specs.declared.closing_try.ClosingTry.{ClosingTry}
use Rattle.lane_turns.specs.declared.closing_try.ClosingTry.TheVariants as tried
use Rattle.lane_turns.specs.AllWorkers.{HadFailed}
use Rattle.lane_turns.specs.Attending.{HasGoneOn}
use Rattle.lane_turns.specs.Benches.{HasHeld}
use Rattle.lane_turns.specs.KnownFaults.{KnowsFault}
use Rattle.lane_turns.specs.LaneValues.{Terms}
use Rattle.lane_turns.specs.OpenerEvents.{HasClosed, HasWaited}
use Rattle.lane_turns.specs.Openers.{OpenerView}

-- the round was closed, where the lanes stood at some places
pub record HasClosedRound {H X : Type 0} (t : Terms H X) (closing : Closing) (old new : OpenerView)
    : Type 0 where
  pub places : List ℕ
  pub held : HasHeld (HasClosed t.names.script places closing) old new

-- the reactor had failed: the opener heard that, and drew nothing
pub record HasHeardFailure {H X : Type 0} (t : Terms H X) (old new : OpenerView) : Type 0 where
  pub on : HasGoneOn old new
  pub knows : KnowsFault t.names.script new.pen.seat
  pub had : HadFailed t

-- it was closed; or a load or a look refuted the closing; or the reactor had failed
abbrev pub TriedToClose : {H X : Type 0} → Terms H X → Closing → ClosingTry → OpenerView → OpenerView →
    Type 0
TriedToClose t closing tried.Closed old new = HasClosedRound t closing old new
TriedToClose t closing tried.Refuted old new = HasHeld (HasWaited t.names.script closing) old new
TriedToClose t closing tried.Failed old new = HasHeardFailure t old new
