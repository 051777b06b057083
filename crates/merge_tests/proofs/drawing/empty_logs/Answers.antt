use Rattle.merge_tests.proofs.DrawingLemmas.{none_longer}
use Rattle.merge_tests.proofs.drawing.empty_logs.Goals as goal

pub loop-preserved : goal.loop-preserved
loop-preserved g c = none_longer c.loop.logs.items c.add_log.new.logs.items c.new.result c.add_log.ensures
    c.new.ensures.items c.loop.invariant
