use Rattle.std.proofs.Common.{◌≡◌}
use Rattle.run_picture.proofs.picture.draw_bars.Given as goal

abbrev pub invariant-loop-bar : goal.invariant-loop-bar
invariant-loop-bar g l = g.K.Sink.faults l.out ≡ g.K.Sink.faults l.initial.out
