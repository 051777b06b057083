use Rattle.std.proofs.Common.{◌≡◌}
use Rattle.run_picture.proofs.frame.draw_legend.Given as goal

abbrev pub invariant-loop-strand : goal.invariant-loop-strand
invariant-loop-strand g l = g.K.Sink.faults l.out ≡ g.K.Sink.faults l.initial.out
