use Rattle.std.proofs.Common.{◌≡◌, ◌≤◌, map, replicate, length, None}
use Rattle.std.specs.Prelude.{vec_capacity}
use Rattle.std.specs.List.{range_with_len}
use Rattle.op_handlers.specs.Rack.{handlers_in}
use Rattle.lane_map.specs.LaneNumbers.{lane_list, operations_on}
use Rattle.strand_core.proofs.racks.empty_racks.Given as goal

abbrev pub invariant-loop-lane : goal.invariant-loop-lane
invariant-loop-lane g l =
    record {
      items : map handlers_in l.racks.items
          ≡ map (λ lane. replicate (operations_on l.fn.lanes lane) None) (range_with_len 0 l.lane);
      room : length (lane_list l.fn.lanes) ≤ vec_capacity l.racks;
    }
