use Rattle.std.proofs.Common.{◌≡◌}
use Rattle.run_picture.proofs.frame.draw_frame.Given as goal

abbrev pub invariant-loop-thread : goal.invariant-loop-thread
invariant-loop-thread g l = g.K.Sink.faults l.out ≡ g.K.Sink.faults l.initial.out
