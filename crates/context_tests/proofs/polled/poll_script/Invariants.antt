use Rattle.proactor_core.specs.Proactor.{tells}
use Rattle.session_run.specs.LaneNames.{names_of}
use Rattle.context_tests.proofs.polled.poll_script.Given as goal

abbrev pub ghosts-poll_lanes : goal.ghosts-poll_lanes
ghosts-poll_lanes g a = record {
  names = names_of g.H.CompletionHandler.marks a.script.now (tells (g.X.Reactor.told a.reactor)) a.rack.now;
  clock = a.room.parts;
  faults = g.X.Reactor.faults a.reactor;
}
