use Rattle.std.proofs.Common.{◌≡◌}
use Rattle.std.specs.Prelude.{take}
use Rattle.asio_types.specs.Sink.{Extends}
use Rattle.run_picture.specs.Escaped.{escaped}
use Rattle.run_picture.proofs.escaped.write_escaped.Given as goal

abbrev pub invariant-loop-byte : goal.invariant-loop-byte
invariant-loop-byte g l =
    (g.K.Sink.faults l.out ≡ g.K.Sink.faults l.initial.out)
    × Extends (g.K.Sink.written l.initial.out) (escaped (take l.byte-index l.text)) (g.K.Sink.written l.out)
