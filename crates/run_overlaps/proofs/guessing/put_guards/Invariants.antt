use Rattle.run_overlaps.specs.Guarding.{lists_locked}
use Rattle.run_overlaps.proofs.guessing.put_guards.Given as goal

abbrev pub invariant-loop-thing : goal.invariant-loop-thing
invariant-loop-thing l = lists_locked l.fn.guards → lists_locked l.guards
