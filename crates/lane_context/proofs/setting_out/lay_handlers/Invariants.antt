use Rattle.std.proofs.Common.{◌≡◌, None, Some, replicate}
use Rattle.std.specs.Prelude.{vec_capacity}
use Rattle.std.specs.Vec.Iter.{into_iter_items, into_iter_len}
use Rattle.lane_turns.specs.LaneValues.{handlers}
use Rattle.lane_context.proofs.SettingOutLemmas.{AreMade}
use Rattle.lane_context.proofs.setting_out.lay_handlers.Given as goal

abbrev pub decreases-loop-baton : goal.decreases-loop-baton
decreases-loop-baton g l = into_iter_len l.rest

abbrev pub invariant-loop-baton : goal.invariant-loop-baton
invariant-loop-baton g l = record {
  made : AreMade (λ baton. handlers (Some baton)) l.fn.batons.items l.bench.items (into_iter_items l.rest);
  slots : l.slots.items ≡ replicate (into_iter_len l.rest) None;
  room : vec_capacity l.bench ≡ vec_capacity l.fn.bench;
}
