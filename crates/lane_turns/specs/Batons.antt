-- What a lane keeps from one turn to the next, and what holds of it whoever takes it.
use Rattle.std.specs.Prelude.{◌≡◌, ℕ, ◌<◌, Bool, not, ◌&&◌, List, length, Option, Some, is_some}
use Rattle.std.specs.Option.{option_map}
use Rattle.op_handlers.specs.Marks.{Marks}
use Rattle.op_handlers.specs.declared.call.Call.{Call}
use Rattle.session_script.specs.Script.{ScriptModel}
use Rattle.strand_core.specs.Hands.{HasRunMark, Held, held_at}
use Rattle.strand_core.specs.Room.{room_for}
use Rattle.lane_clock.specs.declared.step.ClockStep.{ClockStep}
use Rattle.lane_clock.specs.Knowledge.{steps_at}
use Rattle.lane_clock.specs.Seats.{ClockId, Owns, SeatView, own}
use Rattle.lane_map.specs.LaneNumbers.{is_op_on, reactor_lane}
use Rattle.lane_logs.specs.declared.log.LogEntry.{LogEntry}
use Rattle.lane_logs.specs.Knowing.{joined_count}
use Rattle.lane_logs.specs.Labels.{events_in}
use Rattle.lane_logs.specs.LaneLog.{IsLaneLog, has_begun}
use Rattle.lane_logs.specs.Names.{IsNamedMark, SessionNames}
use Rattle.lane_logs.specs.Parts.{next_place}
use Rattle.lane_logs.specs.SeatNumbers.{lane_count, opener_seat}
use Rattle.lane_logs.specs.Stand.{base_of, is_running_round}
use Rattle.lane_turns.specs.Pens.{MayGo, PenView}

pub record LaneView : Type 0 where
  pub lane : ℕ
  pub pen : PenView
  -- its next place: how many notes were executed or taken
  pub place : ℕ
  -- the stops with which it may begin something, and whether time may pass
  pub base : ℕ
  pub running : Bool
  -- the operation that was missed first
  pub missed : Option ℕ

-- what a seat knows of the opener's steps
abbrev pub opener_known : ScriptModel → SeatView → List ClockStep
opener_known script seat = steps_at seat.known (opener_seat script)

-- a lane with its seat, whose log is made of whole parts
pub record IsLane (names : SessionNames) (clock : ClockId) (view : LaneView) : Type 0 where
  pub clock_is : view.pen.seat.clock ≡ clock
  pub number : view.pen.seat.number ≡ view.lane
  pub owns : Owns view.pen.seat view.lane
  pub there : view.lane < lane_count names.script
  pub log : IsLaneLog names (opener_known names.script view.pen.seat) view.lane (own view.pen.seat)
      view.pen.log view.missed
  pub next : view.place ≡ next_place log.parts
  -- what it knows of the opener its own joins took in
  pub known : joined_count (opener_seat names.script) (own view.pen.seat)
      ≡ length (opener_known names.script view.pen.seat)
  pub base_is : view.base ≡ base_of names.script (opener_known names.script view.pen.seat)
  pub running_is : view.running
      ≡ is_running_round names.script (opener_known names.script view.pen.seat)

-- the handlers of a lane's operations that didn't begin yet, with the marks that are named
pub record HaveHands {H : Type 0} (names : SessionNames) (marks : H → Marks) (lane : ℕ)
    (entries : List LogEntry) (hands : Held H) : Type 0 where
  pub script : hands.script ≡ names.script
  pub held : (op : ℕ) → is_some (held_at hands op)
      ≡ (is_op_on names.script lane op && not (has_begun op (events_in entries)))
  pub run : (call : Call) (mark : ℕ) → HasRunMark marks hands call mark → IsNamedMark names call mark
  pub drop : (op mark : ℕ) →
      option_map (λ handler. (marks handler).drop) (held_at hands op) ≡ Some mark →
      mark ≡ names.drop op

-- room for all that the handlers show that are held
abbrev pub room_held : {H : Type 0} → Held H → ℕ
room_held hands = room_for hands.script (λ op. is_some (held_at hands op))

abbrev pub HasRoom : {H : Type 0} → Held H → PenView → Type 0
HasRoom hands pen = MayGo pen (room_held hands) (room_held hands)

-- a lane on which handlers execute
pub record BatonView (H : Type 0) : Type 0 where
  pub lane : LaneView
  pub hands : Held H

pub record IsHandlerBaton {H : Type 0} (names : SessionNames) (marks : H → Marks) (clock : ClockId)
    (view : BatonView H) : Type 0 where
  pub is_lane : IsLane names clock view.lane
  pub strand : view.lane.lane < reactor_lane names.script
  pub hold : HaveHands names marks view.lane.lane view.lane.pen.log view.hands
  pub room : HasRoom view.hands view.lane.pen
