use Rattle.std.proofs.Common.{◌≡◌}
use Rattle.run_picture.proofs.picture.draw_spots.Given as goal

abbrev pub invariant-loop-spot : goal.invariant-loop-spot
invariant-loop-spot g l = g.K.Sink.faults l.out ≡ g.K.Sink.faults l.initial.out
