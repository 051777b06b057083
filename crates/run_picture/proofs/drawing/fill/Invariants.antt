use Rattle.std.proofs.Common.{◌≡◌}
use Rattle.run_picture.proofs.drawing.fill.Given as goal

abbrev pub invariant-loop-byte : goal.invariant-loop-byte
invariant-loop-byte g l = g.K.Sink.faults l.out ≡ g.K.Sink.faults l.initial.out
