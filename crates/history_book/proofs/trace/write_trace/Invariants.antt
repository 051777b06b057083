use Rattle.std.proofs.Common.{◌≡◌, take}
use Rattle.asio_types.specs.Sink.{Extends}
use Rattle.history_book.specs.Trace.{trace_of}
use Rattle.history_book.proofs.trace.write_trace.Given as goal

abbrev pub invariant-loop-event : goal.invariant-loop-event
invariant-loop-event g l = record {
  written : Extends (g.K.Sink.written l.initial.sink) (trace_of (take l.event-index l.events))
      (g.K.Sink.written l.sink);
  counted : g.K.Sink.faults l.sink ≡ g.K.Sink.faults l.initial.sink;
}
