use Rattle.std.proofs.Common.{◌≡◌}
use Rattle.proactor_core.specs.Proactor.{IsSound}
use Rattle.proactor_tests.proofs.timed.complete.Given as goal

abbrev pub invariant-loop-done : goal.invariant-loop-done
invariant-loop-done g l = record {
  sound : IsSound g.X.Reactor.state g.X.Reactor.told l.timed.proactor;
  script : l.timed.proactor.script ≡ l.initial.timed.proactor.script;
}
