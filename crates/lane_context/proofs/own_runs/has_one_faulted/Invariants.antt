use Rattle.lane_context.proofs.LastEndLemmas.{NoneFaultedBelow}
use Rattle.lane_context.proofs.own_runs.has_one_faulted.Given as goal

abbrev pub invariant-loop-worker : goal.invariant-loop-worker
invariant-loop-worker g l = NoneFaultedBelow l.workers l.worker-index
