use Rattle.std.proofs.Common.{◌≡◌}
use Rattle.run_picture.proofs.frame.write_strand_looks.Given as goal

abbrev pub invariant-loop-look : goal.invariant-loop-look
invariant-loop-look g l = g.K.Sink.faults l.out ≡ g.K.Sink.faults l.initial.out
