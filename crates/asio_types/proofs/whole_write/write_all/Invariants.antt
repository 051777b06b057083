use Rattle.std.proofs.Common.{◌≡◌, ◌≤◌, ◌-◌, [], length, take}
use Rattle.asio_types.specs.Sink.{Extends}
use Rattle.asio_types.proofs.whole_write.write_all.Given as goal

abbrev pub invariant-loop-done : goal.invariant-loop-done
invariant-loop-done g l = record {
  within : l.done ≤ length l.bytes;
  taken : Extends (g.K.Sink.written l.initial.sink) (take l.done l.bytes) (g.K.Sink.written l.sink);
  unasked : l.bytes ≡ [] → l.sink ≡ l.initial.sink;
  uncounted : g.K.Sink.faults l.sink ≡ g.K.Sink.faults l.initial.sink;
}

abbrev pub decreases-loop-done : goal.decreases-loop-done
decreases-loop-done g l = length l.bytes - l.done
