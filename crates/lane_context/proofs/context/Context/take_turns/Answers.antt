use Rattle.std.proofs.Common.{◌≡◌, ◌<◌, ◌+◌, refl, subst, sym, ◌∙◌, arith}
use Rattle.lane_logs.specs.SeatNumbers.{lane_count}
use Rattle.lane_turns.specs.Benches.{IsRow}
use Rattle.lane_turns.specs.Gathering.{with_turns_below}
use Rattle.lane_turns.specs.LaneOf.{seat_of}
use Rattle.lane_context.proofs.GatheringLemmas.{none_taken, row_next, row_none, taker_fits, taker_has_all, taker_lacks, taker_next}
use Rattle.lane_context.proofs.context.Context.take_turns.Goals as goal

pub take_next-value-requires-clause-seat : goal.take_next-value-requires-clause-seat
take_next-value-requires-clause-seat g c =
    taker_fits c.args.self.now c.args.seat.now c.loop-lane.seat c.loop-lane.lane c.loop-lane.invariant.seat
    c.requires.seat

pub take_next-value-requires-clause-all : goal.take_next-value-requires-clause-all
take_next-value-requires-clause-all g c =
    taker_has_all c.args.self.now c.args.seat.now c.loop-lane.seat c.loop-lane.lane c.loop-lane.invariant.seat
    c.requires.seat

pub take_next-value-requires-clause-free : goal.take_next-value-requires-clause-free
take_next-value-requires-clause-free g c =
    taker_lacks c.args.self.now c.args.seat.now c.loop-lane.seat c.loop-lane.lane c.loop-lane.invariant.seat
    c.requires.seat

pub loop-lane-init : goal.loop-lane-init
loop-lane-init g c =
    record {
      seat = none_taken c.args.seat.now c.requires.seat.free;
      row = row_none seat_of 0 c.args.bench.now.items c.requires.none;
      room = refl;
    }

pub loop-lane-preserved : goal.loop-lane-preserved
loop-lane-preserved g c =
    record {
      seat =
          taker_next c.args.self.now c.args.seat.now c.loop-lane.seat c.loop-lane.lane c.loop-lane.invariant.seat
          c.requires.seat c.take_next-value.new.seat c.take_next-value.ensures.seat;
      row =
          row_next seat_of c.loop-lane.lane c.loop-lane.bench.items c.push_reserved.new.self.items
          c.take_next-value.result c.push_reserved.ensures.items c.loop-lane.invariant.row
          c.take_next-value.ensures.value;
      room = c.push_reserved.ensures.capacity ∙ c.loop-lane.invariant.room;
    }
