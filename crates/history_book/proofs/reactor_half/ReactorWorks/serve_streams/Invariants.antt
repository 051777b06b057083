use Rattle.std.proofs.Common.{◌≡◌, length}
use Rattle.history_rules.specs.Settling.{served_below}
use Rattle.history_book.proofs.reactor_half.ReactorWorks.serve_streams.Given as goal

abbrev pub invariant-loop-stream : goal.invariant-loop-stream
invariant-loop-stream l = record {
  served : l.self ≡ record l.initial.self { half = served_below l.stream l.initial.self.half };
  ends : l.stream-end ≡ length l.initial.self.half.queues;
}
