use Rattle.run_overlaps.specs.Guarding.{lists_locked}
use Rattle.run_overlaps.proofs.guessing.put_workers.Given as goal

abbrev pub invariant-loop-context : goal.invariant-loop-context
invariant-loop-context l = lists_locked l.fn.guards → lists_locked l.guards
