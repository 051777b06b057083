use Rattle.std.proofs.Common.{◌≡◌, length}
use Rattle.proactor_core.specs.Proactor.{IsSound}
use Rattle.asio_speed.proofs.proactor_turns.told.Given as goal

abbrev pub invariant-loop-count : goal.invariant-loop-count
invariant-loop-count g l = record {
  sound : IsSound g.X.Reactor.state g.X.Reactor.told l.proactor;
  script : l.proactor.script ≡ l.initial.proactor.script;
}

abbrev pub decreases-loop-count : goal.decreases-loop-count
decreases-loop-count g l = length l.proactor.tables.due.coming
