use Rattle.std.proofs.Common.{◌≡◌, []}
use Rattle.proactor_core.specs.Proactor.{IsSound}
use Rattle.asio_speed.proofs.proactor_turns.take_all.Given as goal

abbrev pub invariant-loop-a : goal.invariant-loop-a
invariant-loop-a g l = record {
  sound : IsSound g.X.Reactor.state g.X.Reactor.told l.proactor;
  nothing_due : l.proactor.tables.due.coming ≡ [];
  script : l.proactor.script ≡ l.script;
}
