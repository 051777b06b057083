use Rattle.std.proofs.Common.{◌≡◌}
use Rattle.trace_show.proofs.picture.draw_layer.Given as goal

abbrev pub invariant-loop-event : goal.invariant-loop-event
invariant-loop-event g l = g.K.Sink.faults l.out ≡ g.K.Sink.faults l.initial.out
