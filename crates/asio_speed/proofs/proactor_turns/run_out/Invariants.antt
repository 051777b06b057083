use Rattle.std.proofs.Common.{◌≡◌, []}
use Rattle.proactor_core.specs.Proactor.{IsSound}
use Rattle.asio_speed.proofs.proactor_turns.run_out.Given as goal

abbrev pub invariant-loop : goal.invariant-loop
invariant-loop g l = record {
  sound : IsSound g.X.Reactor.state g.X.Reactor.told l.proactor;
  nothing_due : l.proactor.tables.due.coming ≡ [];
}
