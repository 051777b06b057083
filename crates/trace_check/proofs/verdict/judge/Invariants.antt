use Rattle.std.proofs.Common.{◌≡◌, take}
use Rattle.history_rules.specs.Legal.{IsLegalSoFar, state_of}
use Rattle.trace_check.proofs.verdict.judge.Given as goal

abbrev pub invariant-loop-i : goal.invariant-loop-i
invariant-loop-i l =
    record {
      script : l.replay.script ≡ l.fn.replay.script;
      told : l.replay.told ≡ l.fn.replay.told;
      state : l.replay.state ≡ state_of l.fn.replay.script l.fn.replay.told (take l.i l.events);
      legal : IsLegalSoFar l.fn.replay.script l.fn.replay.told (take l.i l.events);
    }
