use Rattle.std.proofs.Common.{arith, ◌∙◌}
use Rattle.lane_turns.proofs.DiscardingLemmas.{untouched_more}
use Rattle.lane_turns.proofs.discarding.discard_each.Goals as goal

pub loop-op-preserved : goal.loop-op-preserved
loop-op-preserved g c =
    record {
      so_far = c.discard_next.ensures.so_far;
      let_go =
          let more = untouched_more g.N.LaneSession.names c.args.seen.now.events c.loop-op.op in
          omega (arith, c.loop-op.invariant.let_go, c.discard_next.ensures.let_go, more);
      few = omega (arith, c.loop-op.invariant.few, c.discard_next.type_inv);
      capacity = c.discard_next.ensures.capacity ∙ c.loop-op.invariant.capacity;
    }
