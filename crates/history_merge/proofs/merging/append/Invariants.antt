use Rattle.std.proofs.Common.{◌≡◌, ◌+◌, ◌++◌, take}
use Rattle.history_merge.proofs.merging.append.Given as goal

abbrev pub invariant-loop-event : goal.invariant-loop-event
invariant-loop-event l = record {
  events : l.longer.events ≡ l.initial.longer.events ++ take l.event-index l.events;
  spare : l.longer.spare + l.event-index ≡ l.initial.longer.spare;
}
