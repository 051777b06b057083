use Rattle.std.proofs.Common.{◌≡◌, [], length}
use Rattle.asio_types.specs.Sink.{Extends}
use Rattle.text_io.specs.Buffering.{with_unsent}
use Rattle.text_io.proofs.buffered_sink.write_out.Given as goal

abbrev pub invariant-loop-inner : goal.invariant-loop-inner
invariant-loop-inner g l =
    record {
      kept : Extends (with_unsent l.initial.unsent (g.K.Sink.written l.initial.inner)) []
          (with_unsent l.unsent (g.K.Sink.written l.inner));
      unasked : l.initial.unsent.bytes ≡ [] → (l.inner ≡ l.initial.inner) × (l.unsent ≡ l.initial.unsent);
      counted : g.K.Sink.faults l.inner ≡ g.K.Sink.faults l.initial.inner;
    }

abbrev pub decreases-loop-inner : goal.decreases-loop-inner
decreases-loop-inner g l = length l.unsent.bytes
