use Rattle.proactor_core.specs.Proactor.{tells}
use Rattle.session_run.specs.LaneNames.{names_of}
use Rattle.future_tests.proofs.joined.join_script.Given as goal

abbrev pub ghosts-join_lanes : goal.ghosts-join_lanes
ghosts-join_lanes g a = record {
  names = names_of g.H.CompletionHandler.marks a.script.now (tells (g.X.Reactor.told a.reactor)) a.rack.now;
  clock = a.room.parts;
  faults = g.X.Reactor.faults a.reactor;
}
