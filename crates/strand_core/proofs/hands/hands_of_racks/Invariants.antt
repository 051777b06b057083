use Rattle.std.proofs.Common.{◌≡◌, ◌≤◌, ◌+◌, [], drop, get_or, length, map}
use Rattle.std.specs.Prelude.{vec_capacity}
use Rattle.std.specs.List.{range_with_len}
use Rattle.std.specs.Vec.Iter.{into_iter_items, into_iter_len}
use Rattle.op_handlers.specs.Rack.{handlers_in}
use Rattle.lane_map.specs.LaneNumbers.{is_op_on}
use Rattle.strand_core.specs.Placing.{spread}
use Rattle.strand_core.proofs.hands.hands_of_racks.Given as goal

abbrev pub decreases-loop-held : goal.decreases-loop-held
decreases-loop-held g l = into_iter_len l.rest

abbrev pub invariant-loop-held : goal.invariant-loop-held
invariant-loop-held g l =
    record {
      rest : map handlers_in (into_iter_items l.rest) ≡ drop l.lane (map handlers_in l.fn.racks.items);
      size : l.lane + into_iter_len l.rest ≡ length l.fn.racks.items;
      room : length l.fn.racks.items ≤ vec_capacity l.hands;
      made : l.hands.items
          ≡ map (λ lane. record {
            script = l.fn.script;
            handlers = spread (is_op_on l.fn.script lane) (length l.fn.script.acts)
                (get_or (map handlers_in l.fn.racks.items) lane []);
          }) (range_with_len 0 l.lane);
    }
