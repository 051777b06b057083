use Rattle.std.proofs.Common.{◌≡◌}
use Rattle.io_queues.specs.Linked.{steps_on}
use Rattle.io_queues.proofs.links.node_behind.Given as goal

abbrev pub invariant-loop : goal.invariant-loop
invariant-loop l = l.at ≡ steps_on l.next.items l.node l.counter
