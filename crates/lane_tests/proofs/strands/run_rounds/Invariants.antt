use Rattle.std.proofs.Common.{◌≡◌}
use Rattle.lane_tests.proofs.strands.run_rounds.Given as goal

abbrev pub invariant-loop-round : goal.invariant-loop-round
invariant-loop-round g l =
    record {
      ready : l.ready.acts ≡ l.fn.ready.acts;
      first : l.hands.0.script ≡ l.fn.script;
      second : l.hands.1.script ≡ l.fn.script;
    }
