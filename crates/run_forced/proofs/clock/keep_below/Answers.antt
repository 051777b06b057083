use Rattle.std.proofs.Common.{List}
use Rattle.run_forced.proofs.ClockLemmas.{kept_more}
use Rattle.run_forced.proofs.clock.keep_below.Goals as goal

pub loop-at-preserved : goal.loop-at-preserved
loop-at-preserved c =
    kept_more c.args.all.now c.args.kept.now.items c.loop-at.kept.items c.push.new.self.items c.loop-at.at
    (record { chain = 0; place = 0 }) c.loop-at-test.true c.in_ok-push.ensures.items c.loop-at.invariant
