use Rattle.std.proofs.Common.{refl, ◌∙◌, arith}
use Rattle.std.specs.Vec.Iter.{into_iter_items}
use Rattle.lane_turns.proofs.ContextEndLemmas.{last_home, next_home, next_within, parting_more, parting_none}
use Rattle.lane_turns.proofs.lanes_parting.part_values.Goals as goal

pub into_reactor-reactor-requires : goal.into_reactor-reactor-requires
into_reactor-reactor-requires g c =
    record {
      lane =
          last_home g.N.LaneSession.names.script c.args.values.items c.take_last-last.new.self.items
          c.take_last-last.result c.take_last-last.ensures.items c.requires.count c.requires.home;
    }

pub loop-value-init : goal.loop-value-init
loop-value-init g c =
    record {
      parting =
          parting_none g.N.LaneSession.names.script c.args.values.items c.into_reactor-reactor.result
          c.take_last-last.new.self.items (into_iter_items c.into_iter-lanes.result) c.take_last-last.result c.args.room.items
          c.take_last-last.ensures.items c.into_reactor-reactor.ensures c.into_iter-lanes.ensures.rest c.requires.none;
      capacity = refl;
    }

pub into_handlers-requires : goal.into_handlers-requires
into_handlers-requires g c =
    record {
      lane =
          next_home g.N.LaneSession.names.script c.args.values.items c.into_reactor-reactor.result c.loop-value.all.items
          (into_iter_items c.loop-value.lanes) (into_iter_items c.next.new.self) c.in-Some.value c.in-Some.ensures.items
          c.loop-value.invariant.parting c.requires.count c.requires.home;
    }

pub push_reserved-requires : goal.push_reserved-requires
push_reserved-requires g c =
    omega (
      arith,
      next_within g.N.LaneSession.names.script c.args.values.items c.into_reactor-reactor.result c.loop-value.all.items
          (into_iter_items c.loop-value.lanes) (into_iter_items c.next.new.self) c.in-Some.value c.in-Some.ensures.items
          c.loop-value.invariant.parting c.requires.count,
      c.requires.room,
      c.loop-value.invariant.capacity,
      c.loop-value.all.ok,
    )

pub loop-value-preserved : goal.loop-value-preserved
loop-value-preserved g c =
    record {
      parting =
          parting_more g.N.LaneSession.names.script c.args.values.items c.into_reactor-reactor.result c.loop-value.all.items
          (into_iter_items c.loop-value.lanes) (into_iter_items c.next.new.self) c.in-Some.value c.in-Some.ensures.items
          c.loop-value.invariant.parting c.push_reserved.new.self.items c.into_handlers.result c.into_handlers.ensures
          c.push_reserved.ensures.items;
      capacity = c.push_reserved.ensures.capacity ∙ c.loop-value.invariant.capacity;
    }
