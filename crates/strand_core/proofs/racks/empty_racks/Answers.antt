use Rattle.std.proofs.Common.{List, map, replicate, None, ap, ◌∙◌, arith}
use Rattle.op_handlers.specs.Rack.{handlers_in}
use Rattle.op_handlers.specs.declared.rack.Rack.{Rack}
use Rattle.lane_map.specs.LaneNumbers.{operations_on}
use Rattle.strand_core.proofs.FillingLemmas.{racks_made, racks_more}
use Rattle.strand_core.proofs.racks.empty_racks.Goals as goal

pub push_reserved-requires : goal.push_reserved-requires
push_reserved-requires g c =
    omega (
      arith,
      racks_made (λ lane. replicate (operations_on c.args.lanes.now lane) None) c.loop-lane.racks.items c.loop-lane.lane c.loop-lane.invariant.items,
      c.loop-lane.invariant.room,
      c.loop-lane.racks.ok,
      c.loop-lane-test.true,
      c.lanes-lane-end.ensures,
    )

pub loop-lane-preserved : goal.loop-lane-preserved
loop-lane-preserved g c =
    record {
      items =
          ap (λ (xs : List (Rack g.row.H.Denot)). map handlers_in xs) c.push_reserved.ensures.items
          ∙ racks_more (λ lane. replicate (operations_on c.args.lanes.now lane) None) c.loop-lane.racks.items
          c.in-Ok.rack c.loop-lane.lane c.loop-lane.invariant.items
          (c.in-Ok.ensures ∙ ap (λ m. replicate m None) c.operations.ensures);
      room = omega (arith, c.push_reserved.ensures.capacity, c.loop-lane.invariant.room);
    }
