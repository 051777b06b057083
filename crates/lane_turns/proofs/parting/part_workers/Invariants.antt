use Rattle.std.proofs.Common.{◌≡◌, ◌++◌, List, map}
use Rattle.std.specs.Prelude.{vec_capacity}
use Rattle.std.specs.Vec.Iter.{into_iter_items, into_iter_len}
use Rattle.lane_turns.specs.Workers.{IsWorker, WorkerView}
use Rattle.lane_turns.proofs.PartingLemmas.{IsGoing}
use Rattle.lane_turns.proofs.parting.part_workers.Given as goal

abbrev pub decreases-loop-worker : goal.decreases-loop-worker
decreases-loop-worker g l = into_iter_len l.rest

abbrev pub invariant-loop-worker : goal.invariant-loop-worker
invariant-loop-worker g l =
    record {
      front : List WorkerView;
      going : IsGoing (λ worker. IsWorker g.N.LaneSession.names.script g.N.LaneSession.clock worker) l.fn.workers.items
          (into_iter_items l.rest) front;
      made : l.all.items ≡ l.initial.all.items ++ map (λ (worker : WorkerView). worker.pen) front;
      capacity : vec_capacity l.all ≡ vec_capacity l.initial.all;
    }
