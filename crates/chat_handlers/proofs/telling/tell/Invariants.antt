use Rattle.std.proofs.Common.{◌≡◌, ◌≤◌}
use Rattle.chat_handlers.proofs.TellingLemmas.{IsToldTo}
use Rattle.chat_handlers.proofs.telling.tell.Given as goal

abbrev pub invariant-loop : goal.invariant-loop
invariant-loop l = record {
  told : IsToldTo l.room l.text l.initial.io l.initial.members.items l.counter l.io l.members.items l.refused;
  few : l.refused ≤ l.counter;
  grant : l.io.granted ≡ l.initial.io.granted;
  kept : l.io.kept ≡ l.initial.io.kept;
}
