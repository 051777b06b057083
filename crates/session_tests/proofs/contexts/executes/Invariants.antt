use Rattle.std.proofs.Common.{false}
use Rattle.session_run.specs.RackMarks.{drop_mark, rack_run_mark}
use Rattle.session_tests.proofs.contexts.executes.Given as goal

abbrev pub ghosts-executed_before_the_end : goal.ghosts-executed_before_the_end
ghosts-executed_before_the_end g a =
    record {
      script = a.script.now;
      told = false;
      run = rack_run_mark (λ h. record { run = λ _. h.number; drop = h.number }) a.rack.now;
      drop = drop_mark (λ h. record { run = λ _. h.number; drop = h.number }) a.rack.now;
      faults = 0;
      outside = false;
    }
