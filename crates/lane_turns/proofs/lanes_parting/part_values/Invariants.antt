use Rattle.std.proofs.Common.{◌≡◌}
use Rattle.std.specs.Prelude.{vec_capacity}
use Rattle.std.specs.Vec.Iter.{into_iter_items, into_iter_len}
use Rattle.lane_turns.proofs.ContextEndLemmas.{IsParting}
use Rattle.lane_turns.proofs.lanes_parting.part_values.Given as goal

abbrev pub decreases-loop-value : goal.decreases-loop-value
decreases-loop-value g l = into_iter_len l.lanes

abbrev pub invariant-loop-value : goal.invariant-loop-value
invariant-loop-value g l = record {
  parting : IsParting g.N.LaneSession.names.script l.fn.values.items l.reactor l.all.items (into_iter_items l.lanes);
  capacity : vec_capacity l.all ≡ vec_capacity l.fn.room;
}
