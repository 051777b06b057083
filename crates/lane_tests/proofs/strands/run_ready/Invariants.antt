use Rattle.std.proofs.Common.{◌≡◌}
use Rattle.lane_tests.proofs.strands.run_ready.Given as goal

abbrev pub invariant-loop : goal.invariant-loop
invariant-loop g l =
    record {
      ready : l.ready.acts ≡ l.fn.ready.acts;
      first : l.hands.0.script ≡ l.fn.script;
      second : l.hands.1.script ≡ l.fn.script;
    }
