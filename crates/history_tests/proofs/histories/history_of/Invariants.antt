use Rattle.std.proofs.Common.{◌≡◌, ◌+◌, length}
use Rattle.history_tests.proofs.histories.history_of.Given as goal

abbrev pub invariant-loop-event : goal.invariant-loop-event
invariant-loop-event l = l.history.spare + l.event-index ≡ length l.events
