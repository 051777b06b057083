use Rattle.std.proofs.Common.{◌≡◌, ◌+◌, ◌≤◌, ◌∷◌}
use Rattle.std.specs.Prelude.{vec_capacity, vec_len}
use Rattle.io_queues.specs.Linked.{numbers}
use Rattle.io_queues.proofs.links.links_back.Given as goal

abbrev pub invariant-loop-node : goal.invariant-loop-node
invariant-loop-node l = record {
  made : l.links.items ≡ l.last ∷ numbers 0 l.node;
  many : vec_len l.links ≡ l.node + 1;
  room : l.last + 1 ≤ vec_capacity l.links;
}
