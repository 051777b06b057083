use Rattle.std.proofs.Common.{◌≡◌, []}
use Rattle.proactor_core.specs.Proactor.{IsSound}
use Rattle.proactor_tests.proofs.turns.make_turns.Given as goal

abbrev pub invariant-loop-turn : goal.invariant-loop-turn
invariant-loop-turn g l = record {
  sound : IsSound g.X.Reactor.state g.X.Reactor.told l.proactor;
  nothing_due : l.proactor.tables.due.coming ≡ [];
  script : l.proactor.script ≡ l.script;
}
