use Rattle.std.proofs.Common.{◌≡◌}
use Rattle.run_picture.proofs.picture.draw_brackets.Given as goal

abbrev pub invariant-loop-one : goal.invariant-loop-one
invariant-loop-one g l = g.K.Sink.faults l.out ≡ g.K.Sink.faults l.initial.out
