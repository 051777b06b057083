use Rattle.std.proofs.Common.{◌≡◌, take}
use Rattle.std.specs.List.{flat_map}
use Rattle.asio_types.specs.Sink.{Extends}
use Rattle.generated_session.specs.Summary.{text_of_line}
use Rattle.generated_session.proofs.summary.write_summary.Given as goal

abbrev pub invariant-loop-line : goal.invariant-loop-line
invariant-loop-line g l = record {
  written : Extends (g.K.Sink.written l.initial.sink) (flat_map text_of_line (take l.line-index l.line-items))
      (g.K.Sink.written l.sink);
  counted : g.K.Sink.faults l.sink ≡ g.K.Sink.faults l.initial.sink;
}
