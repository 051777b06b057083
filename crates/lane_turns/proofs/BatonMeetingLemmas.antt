-- What a lane keeps, after it took in what the opener knew.
use Rattle.std.proofs.Common.{◌≡◌, ℕ, List, sym, subst}
use Rattle.std.specs.Prelude.{Option}
use Rattle.op_handlers.specs.Marks.{Marks}
use Rattle.strand_core.specs.Hands.{Held}
use Rattle.reactor_trait.specs.Reactor.{Outside, ReactorState}
use Rattle.proactor_core.specs.Proactor.{ProactorView}
use Rattle.reactor_turns.specs.Ahead.{events_ahead}
use Rattle.lane_clock.specs.Knowledge.{StartOf}
use Rattle.lane_clock.specs.Seats.{ClockId, SeatView, copy_seat, own}
use Rattle.lane_logs.specs.declared.log.LogEntry.{LogEntry}
use Rattle.lane_logs.specs.Names.{SessionNames}
use Rattle.lane_logs.specs.SeatNumbers.{opener_seat}
use Rattle.lane_turns.specs.Batons.{HaveHands, IsHandlerBaton, LaneView, opener_known, room_held}
use Rattle.lane_turns.specs.Meeting.{PenHasMet}
use Rattle.lane_turns.specs.Openers.{in_round, round_after}
use Rattle.lane_turns.specs.Pens.{MayGo, PenView}
use Rattle.lane_turns.specs.Turning.{IsReactorBaton, KeepsTurns, log_half}
use Rattle.lane_turns.proofs.LaneMeetingLemmas.{lane_meets}
use Rattle.lane_turns.proofs.MeetingLemmas.{met_room}

-- a lane on which handlers execute
pub baton_meets : {H : Type 0} (names : SessionNames) (marks : H → Marks) (clock : ClockId) (opener : SeatView)
    (old : LaneView) (pen : PenView) (held : Held H) → opener.number ≡ opener_seat names.script →
    IsHandlerBaton names marks clock (record { lane = old; hands = held }) →
    PenHasMet (copy_seat opener) old.pen pen → StartOf (opener_known names.script old.pen.seat) (own opener) →
    IsHandlerBaton names marks clock (record {
      lane = in_round old pen (round_after names.script (own opener));
      hands = held;
    })
baton_meets names marks clock opener old pen held number is met behind =
    record {
      is_lane = lane_meets names clock opener old pen number is.is_lane met behind;
      strand = is.strand;
      hold = subst (λ (log : List LogEntry). HaveHands names marks old.lane log held) (sym met.log) is.hold;
      room = met_room (copy_seat opener) old.pen pen (room_held held) (room_held held) met is.room;
    }

-- and the reactor's lane
pub reactor_meets : {X : Type 0} (names : SessionNames) (state : X → ReactorState) (told : X → Option Outside)
    (faults : X → ℕ) (named : ℕ) (clock : ClockId) (opener : SeatView) (old : LaneView) (pen : PenView)
    (proactor : ProactorView X) → opener.number ≡ opener_seat names.script →
    IsReactorBaton names state told faults named clock (record { lane = old; proactor = proactor }) →
    PenHasMet (copy_seat opener) old.pen pen → StartOf (opener_known names.script old.pen.seat) (own opener) →
    IsReactorBaton names state told faults named clock (record {
      lane = in_round old pen (round_after names.script (own opener));
      proactor = proactor;
    })
reactor_meets names state told faults named clock opener old pen proactor number is met behind =
    let ahead : ℕ = events_ahead names.script (log_half names old.pen.log) in
    record {
      is_lane = lane_meets names clock opener old pen number is.is_lane met behind;
      last = is.last;
      keeps =
          subst (λ (log : List LogEntry). KeepsTurns names state told faults named (log_half names log) proactor)
          (sym met.log) is.keeps;
      room =
          subst (λ (log : List LogEntry).
          MayGo pen (events_ahead names.script (log_half names log)) (events_ahead names.script (log_half names log)))
          (sym met.log) (met_room (copy_seat opener) old.pen pen ahead ahead met is.room);
    }
