use Rattle.std.proofs.Common.{◌≡◌, refl, subst, sym, ◌∙◌}
use Rattle.turn_table.specs.Seated.{IsSeatOf}
use Rattle.lane_turns.specs.Benches.{IsRow}
use Rattle.lane_turns.specs.LaneOf.{seat_of}
use Rattle.lane_context.proofs.GatheringLemmas.{all_taken, last_front, last_given, last_turn, row_sized}
use Rattle.lane_context.proofs.context.Context.give_turns.Goals as goal

pub give_next-requires-clause-seat : goal.give_next-requires-clause-seat
give_next-requires-clause-seat g c =
    subst (λ s. IsSeatOf c.args.self.now s) (sym c.loop-value.invariant.seat) c.requires.seat

pub give_next-requires-clause-turn : goal.give_next-requires-clause-turn
give_next-requires-clause-turn g c =
    last_turn seat_of c.loop-value.bench.items c.pop.new.self.items c.in-Some.value c.args.seat.now
    c.loop-value.seat c.in-Some.ensures.items c.loop-value.invariant.row c.loop-value.invariant.seat

pub loop-value-init : goal.loop-value-init
loop-value-init g c =
    record {
      seat = all_taken c.args.seat.now _ _ c.requires.turns c.requires.lanes.size;
      row = row_sized seat_of _ c.args.bench.now.items c.requires.lanes;
      room = refl;
    }

pub loop-value-preserved : goal.loop-value-preserved
loop-value-preserved g c =
    record {
      seat =
          last_given seat_of c.loop-value.bench.items c.pop.new.self.items c.in-Some.value c.args.seat.now
          c.loop-value.seat c.in-Some.ensures.items c.loop-value.invariant.row c.loop-value.invariant.seat
          c.give_next.new.seat c.give_next.ensures;
      row =
          last_front seat_of c.loop-value.bench.items c.pop.new.self.items c.in-Some.value c.args.seat.now
          c.loop-value.seat c.in-Some.ensures.items c.loop-value.invariant.row c.loop-value.invariant.seat;
      room = c.in-Some.ensures.capacity ∙ c.loop-value.invariant.room;
    }
