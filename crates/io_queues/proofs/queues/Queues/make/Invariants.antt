use Rattle.std.proofs.Common.{◌≡◌, ◌≤◌, None}
use Rattle.std.specs.Prelude.{replicate, vec_capacity, vec_len}
use Rattle.io_queues.proofs.queues.Queues.make.Given as goal

abbrev pub invariant-loop : goal.invariant-loop
invariant-loop g l = record {
  made : l.items.items ≡ replicate l.counter None;
  many : vec_len l.items ≡ l.counter;
  room : l.places ≤ vec_capacity l.items;
}
