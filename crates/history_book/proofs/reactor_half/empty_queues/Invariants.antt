use Rattle.std.proofs.Common.{◌≡◌, length}
use Rattle.history_book.specs.Queues.{AreNew}
use Rattle.history_book.proofs.reactor_half.empty_queues.Given as goal

abbrev pub invariant-loop-stream : goal.invariant-loop-stream
invariant-loop-stream l = record {
  count : length l.queues.items ≡ l.stream;
  each : AreNew l.rooms l.queues.items;
}
