use Rattle.std.proofs.Common.{◌≡◌}
use Rattle.run_picture.proofs.frame.draw_scale.Given as goal

abbrev pub invariant-loop-line : goal.invariant-loop-line
invariant-loop-line g l = g.K.Sink.faults l.out ≡ g.K.Sink.faults l.initial.out
