use Rattle.std.proofs.Common.{◌≡◌, ◌≤◌, vec_len, vec_capacity}
use Rattle.std.specs.Prelude.{All, IsSome}
use Rattle.session_script.specs.Limits.{most_acts}
use Rattle.future_tests.proofs.looking.looking_rack.Given as goal

abbrev pub invariant-loop-n : goal.invariant-loop-n
invariant-loop-n g l = record {
  room : most_acts ≤ vec_capacity l.handlers;
  count : vec_len l.handlers ≡ l.n;
  whole : All IsSome l.handlers.items;
}
