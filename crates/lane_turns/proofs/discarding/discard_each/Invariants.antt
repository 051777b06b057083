use Rattle.std.specs.Prelude.{◌≡◌, ◌*◌, ◌^◌, ◌≤◌, vec_capacity}
use Rattle.lane_logs.specs.Drops.{untouched_marks}
use Rattle.lane_turns.specs.Discarding.{IsDiscarding}
use Rattle.lane_turns.proofs.discarding.discard_each.Given as goal

abbrev pub invariant-loop-op : goal.invariant-loop-op
invariant-loop-op g l =
    record {
      so_far : IsDiscarding g.N.LaneSession.names g.H.CompletionHandler.marks l.seen.events l.op l.hands l.drops.items;
      let_go : l.let_go ≡ untouched_marks g.N.LaneSession.names l.seen.events l.op;
      few : l.let_go ≤ l.op * 2 ^ 64;
      capacity : vec_capacity l.drops ≡ vec_capacity l.initial.drops;
    }
