use Rattle.std.proofs.Common.{◌≡◌, ◌≤◌, replicate, None}
use Rattle.std.specs.Prelude.{vec_capacity}
use Rattle.strand_core.proofs.racks.empty_rack.Given as goal

abbrev pub invariant-loop : goal.invariant-loop
invariant-loop g l =
    record {
      items : l.slots.items ≡ replicate l.counter None;
      room : l.count ≤ vec_capacity l.slots;
    }
