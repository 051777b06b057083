use Rattle.std.proofs.Common.{◌≡◌, []}
use Rattle.proactor_core.specs.Proactor.{IsSound}
use Rattle.proactor_tests.proofs.timed.make_turns.Given as goal

abbrev pub invariant-loop-turn : goal.invariant-loop-turn
invariant-loop-turn g l = record {
  sound : IsSound g.X.Reactor.state g.X.Reactor.told l.timed.proactor;
  nothing_due : l.timed.proactor.tables.due.coming ≡ [];
  chan_told : l.timed.chan.due ≡ [];
  script : l.timed.proactor.script ≡ l.script;
}
