use Rattle.std.proofs.Common.{◌≡◌, ◌+◌, length}
use Rattle.std.specs.Prelude.{vec_capacity}
use Rattle.std.specs.Arc.{arc_value}
use Rattle.ready_hints.specs.Hints.{Passed}
use Rattle.lane_turns.proofs.LookoutLemmas.{AreOf}
use Rattle.lane_turns.proofs.lookout.lookouts.Given as goal

abbrev pub decreases-loop-pass : goal.decreases-loop-pass
decreases-loop-pass l = length l.passes

abbrev pub invariant-loop-pass : goal.invariant-loop-pass
invariant-loop-pass l = record {
  count : length l.all.items + length l.passes ≡ l.workers;
  room : vec_capacity l.all ≡ l.workers;
  own : AreOf (λ (pass : Passed). pass.queue) (arc_value l.hints) l.passes;
}
