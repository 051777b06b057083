use Rattle.std.proofs.Common.{◌≡◌, length}
use Rattle.proactor_core.specs.Proactor.{IsSound}
use Rattle.proactor_tests.proofs.turns.tell_all.Given as goal

abbrev pub invariant-loop-op : goal.invariant-loop-op
invariant-loop-op g l = record {
  sound : IsSound g.X.Reactor.state g.X.Reactor.told l.proactor;
  script : l.proactor.script ≡ l.initial.proactor.script;
}

abbrev pub decreases-loop-op : goal.decreases-loop-op
decreases-loop-op g l = length l.proactor.tables.due.coming
