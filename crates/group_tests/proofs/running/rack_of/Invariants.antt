use Rattle.std.proofs.Common.{◌≡◌, ◌≤◌, vec_len, vec_capacity}
use Rattle.std.specs.Prelude.{All, IsSome}
use Rattle.session_script.specs.Limits.{most_acts}
use Rattle.group_tests.proofs.running.rack_of.Given as goal

abbrev pub invariant-loop : goal.invariant-loop
invariant-loop g l = record {
  room : most_acts ≤ vec_capacity l.handlers;
  count : vec_len l.handlers ≡ l.counter;
  whole : All IsSome l.handlers.items;
}
