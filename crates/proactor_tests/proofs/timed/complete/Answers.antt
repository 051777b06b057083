use Rattle.std.proofs.Common.{◌∙◌}
use Rattle.proactor_tests.proofs.TimedLemmas.{same_script}
use Rattle.proactor_tests.proofs.timed.complete.Goals as goal

pub loop-done-preserved : goal.loop-done-preserved
loop-done-preserved g c = record {
  sound = c.next.ensures.sound;
  script =
      same_script g.X.Reactor.told _ _ c.next.result c.next.ensures.told c.next.ensures.unchanged
      ∙ c.loop-done.invariant.script;
}
