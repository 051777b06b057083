use Rattle.std.proofs.Common.{◌<◌, ◌≤◌, ◌-◌, length, arith}
use Rattle.std.specs.Prelude.{None}
use Rattle.run_forced.proofs.PastLemmas.{ended_at}
use Rattle.run_forced.proofs.past.Past.add_ended.Goals as goal

pub loop-left-preserved : goal.loop-left-preserved
loop-left-preserved c =
    let some = c.loop-left-test.true in
    let within : c.loop-left.left ≤ length c.args.all.now = c.loop-left.invariant.within in
    let less : c.loop-left.left - 1 < length c.args.all.now = omega arith in
    record {
      within = omega arith;
      before = λ run place strand spot followed there takes all before.
          c.in_ok-add_turn.ensures run place strand spot followed there takes
          (ended_at run strand c.args.all.now (c.loop-left.left - 1) (record { op = 0; place = 0; begin = None; behind = None }) all less)
          (c.loop-left.invariant.before run place strand spot followed there takes all before);
    }
