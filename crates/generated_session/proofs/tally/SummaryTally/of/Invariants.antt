use Rattle.std.proofs.Common.{◌≡◌, ◌≤◌, ◌*◌, ◌^◌, take}
use Rattle.generated_session.specs.Summary.{tally_of}
use Rattle.generated_session.proofs.tally.SummaryTally.of.Given as goal

abbrev pub invariant-loop-event : goal.invariant-loop-event
invariant-loop-event l = record {
  counted : l.tally ≡ tally_of (take l.event-index l.events);
  bound : l.tally.marks ≤ l.event-index * 2 ^ 64;
}
