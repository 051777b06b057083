-- What the opener's load and its looks bear out where a round is to be closed (Asio reference,
-- io_context::run, ::poll, ::stopped).
use Rattle.std.specs.Prelude.{◌≡◌, ◌≢◌, ◌⊎◌, ℕ, ◌<◌, ◌≤◌, Bool, true, false, List, None, Contains, IsSome, map, slice_index}
use Rattle.asio_types.specs.declared.event.Event.{Event}
use Rattle.asio_types.specs.declared.event.Event.TheVariants as event
use Rattle.session_script.specs.Script.{ScriptModel}
use Rattle.lane_clock.specs.declared.found.Found.{Found}
use Rattle.lane_map.specs.LaneNumbers.{cells_of}
use Rattle.lane_logs.specs.OpenerLog.{Looked, look_label}
use Rattle.lane_turns.specs.declared.closing.Closing.{Closing}
use Rattle.lane_turns.specs.declared.closing.Closing.TheVariants as closing
use Rattle.lane_turns.specs.declared.standing.RoundNow.{RoundNow}
use Rattle.lane_turns.specs.Pens.{HasGone, PenView}

-- the event that closes a round
abbrev pub closing_event : Closing → Event
closing_event closing.Ended = event.Ended
closing_event closing.Stopped = event.Stopped
closing_event closing.Polled = event.Polled

-- each of the first lanes that has a cell at its place was looked at there, and that was empty
abbrev pub AreSeenEmpty : ScriptModel → List ℕ → ℕ → List Looked → Type 0
AreSeenEmpty script places count looks =
    (lane : ℕ) → lane < count → slice_index places lane < slice_index (cells_of script) lane →
    Contains looks (record { lane = lane; place = slice_index places lane; held = None })

pub record HaveLooked (script : ScriptModel) (places : List ℕ) (count : ℕ) (old new : PenView)
    : Type 0 where
  pub looks : List Looked
  pub gone : HasGone (map look_label looks) old new
  pub empty : AreSeenEmpty script places count looks

-- some look saw a note
pub record SawNote (looks : List Looked) : Type 0 where
  pub looked : Looked
  pub among : Contains looks looked
  pub full : IsSome looked.held

pub record HasSeen (old new : PenView) : Type 0 where
  pub looks : List Looked
  pub gone : HasGone (map look_label looks) old new
  pub saw : SawNote looks

-- what bears a closing out, by what lanes keep of the round
abbrev pub BearsOut : ScriptModel → List ℕ → ℕ → RoundNow → Found → List Looked → Closing → Type 0
BearsOut script places count round found looks closing.Ended =
    (found.stops ≡ round.base) × (found.work ≡ 0)
BearsOut script places count round found looks closing.Stopped = found.stops ≢ round.base
BearsOut script places count round found looks closing.Polled =
    (round.running ≡ false) × (found.stops ≡ round.base) × (1 ≤ found.work)
    × AreSeenEmpty script places count looks

-- and what refutes it
abbrev pub Refutes : RoundNow → Found → List Looked → Closing → Type 0
Refutes round found looks closing.Ended = (found.stops ≢ round.base) ⊎ (1 ≤ found.work)
Refutes round found looks closing.Stopped = found.stops ≡ round.base
Refutes round found looks closing.Polled =
    (round.running ≡ true)
    ⊎ ((found.stops ≢ round.base) ⊎ ((found.work ≡ 0) ⊎ SawNote looks))

abbrev pub Weighs : ScriptModel → List ℕ → ℕ → RoundNow → Found → List Looked → Closing → Bool → Type 0
Weighs script places count round found looks closing true =
    BearsOut script places count round found looks closing
Weighs script places count round found looks closing false = Refutes round found looks closing

-- after looks alone a closing is borne out or not
pub record HasWeighed (script : ScriptModel) (places : List ℕ) (count : ℕ) (round : RoundNow)
    (found : Found) (closing : Closing) (bears : Bool) (old new : PenView) : Type 0 where
  pub looks : List Looked
  pub gone : HasGone (map look_label looks) old new
  pub weighs : Weighs script places count round found looks closing bears
