use Rattle.std.proofs.Common.{◌≡◌, map}
use Rattle.std.specs.Prelude.{vec_capacity}
use Rattle.std.specs.Vec.Iter.{into_iter_items, into_iter_len}
use Rattle.lane_turns.proofs.TakingInLemmas.{IsTaking}
use Rattle.lane_turns.proofs.taking_in.take_in_all.Given as goal

abbrev pub decreases-loop-pen : goal.decreases-loop-pen
decreases-loop-pen g l = into_iter_len l.rest

abbrev pub invariant-loop-pen : goal.invariant-loop-pen
invariant-loop-pen g l =
    record {
      taking : IsTaking g.N.LaneSession.names.script l.fn.pens.items (into_iter_items l.rest) l.initial.opener l.opener
          (map (λ log. log.items) l.initial.all.items) (map (λ log. log.items) l.all.items);
      capacity : vec_capacity l.all ≡ vec_capacity l.initial.all;
    }
