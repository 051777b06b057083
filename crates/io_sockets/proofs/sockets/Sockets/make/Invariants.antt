use Rattle.std.proofs.Common.{◌≡◌, ◌≤◌}
use Rattle.std.specs.Prelude.{replicate, vec_capacity, vec_len}
use Rattle.io_sockets.specs.Stands.{no_stand}
use Rattle.io_sockets.proofs.sockets.Sockets.make.Given as goal

abbrev pub invariant-loop : goal.invariant-loop
invariant-loop g l = record {
  made : l.stands.items ≡ replicate l.counter no_stand;
  many : vec_len l.stands ≡ l.counter;
  room : l.places ≤ vec_capacity l.stands;
}
