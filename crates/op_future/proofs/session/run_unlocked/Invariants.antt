use Rattle.proactor_core.specs.Proactor.{tells}
use Rattle.session_run.specs.LaneNames.{names_of}
use Rattle.op_future.proofs.session.run_unlocked.Given as goal

abbrev pub ghosts-run_lanes : goal.ghosts-run_lanes
ghosts-run_lanes g a =
    record {
      names = names_of g.H.CompletionHandler.marks a.script.now (tells (g.X.Reactor.told a.reactor)) a.rack.now;
      clock = a.room.parts;
      faults = g.X.Reactor.faults a.reactor;
    }
