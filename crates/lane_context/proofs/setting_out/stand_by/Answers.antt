use Rattle.std.proofs.Common.{◌∷◌, [], Some, ap, length, length-append, refl, arith, ◌∙◌}
use Rattle.std.specs.Vec.Iter.{into_iter_items}
use Rattle.lane_turns.specs.Attempts.{IsCallRoom}
use Rattle.lane_context.specs.SessionRooms.{standing_by}
use Rattle.lane_turns.proofs.NewPenLemmas.{reached}
use Rattle.lane_context.proofs.SettingOutLemmas.{made_more, made_within}
use Rattle.lane_context.proofs.StartLemmas.{each_front}
use Rattle.lane_context.proofs.setting_out.stand_by.Goals as goal

pub invariant_of-push_reserved : goal.invariant_of-push_reserved
invariant_of-push_reserved g c =
    record {
      turns = tt;
      last = tt;
      room =
          c.loop-seat.invariant.each (length c.pop.new.self.items) c.in-Some-pop.made
          (reached c.loop-seat.calls.items c.pop.new.self.items c.in-Some-pop.made [] c.in-Some-pop.ensures.items);
      knows = λ fault. absurd (cc fault);
    }

pub push_reserved-requires : goal.push_reserved-requires
push_reserved-requires g c =
    omega (
      arith,
      made_within standing_by c.args.seats.items c.loop-seat.workers.items (into_iter_items c.loop-seat.rest)
          (into_iter_items c.next.new.self) c.in-Some.seat c.in-Some.ensures.items c.loop-seat.invariant.made,
      c.requires.room,
      c.loop-seat.invariant.room,
      c.loop-seat.workers.ok,
    )

pub loop-seat-preserved : goal.loop-seat-preserved
loop-seat-preserved g c =
    record {
      made =
          made_more standing_by c.args.seats.items c.loop-seat.workers.items (into_iter_items c.loop-seat.rest)
          (into_iter_items c.next.new.self) c.in-Some.seat c.in-Some.ensures.items c.loop-seat.invariant.made
          c.push_reserved.new.self.items _ refl c.push_reserved.ensures.items;
      calls =
          omega (
            arith,
            c.loop-seat.invariant.calls,
            c.in-Some.ensures.len,
            ap length c.in-Some-pop.ensures.items,
            length-append c.pop.new.self.items (c.in-Some-pop.made ∷ []),
          );
      lookouts =
          omega (
            arith,
            c.loop-seat.invariant.lookouts,
            c.in-Some.ensures.len,
            ap length c.in-Some-pop-2.ensures.items,
            length-append c.pop-in-Some.new.self.items (c.in-Some-pop-2.lookout ∷ []),
          );
      each =
          each_front c.loop-seat.calls.items c.pop.new.self.items (c.in-Some-pop.made ∷ []) c.in-Some-pop.ensures.items
          (λ k room. IsCallRoom g.N.LaneSession.names.script (Some room)) c.loop-seat.invariant.each;
      room = c.push_reserved.ensures.capacity ∙ c.loop-seat.invariant.room;
    }
