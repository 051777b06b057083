use Rattle.std.proofs.Common.{false}
use Rattle.proactor_core.specs.Proactor.{tells}
use Rattle.session_run.specs.RackMarks.{drop_mark, rack_run_mark}
use Rattle.session_run.proofs.context_kind.run_by.Given as goal

abbrev pub ghosts-run_locked : goal.ghosts-run_locked
ghosts-run_locked g a =
    record {
      script = a.script.now;
      told = tells (g.X.Reactor.told a.reactor);
      run = rack_run_mark g.H.CompletionHandler.marks a.rack.now;
      drop = drop_mark g.H.CompletionHandler.marks a.rack.now;
      faults = g.X.Reactor.faults a.reactor;
      outside = false;
    }
