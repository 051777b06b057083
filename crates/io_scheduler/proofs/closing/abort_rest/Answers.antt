use Rattle.std.proofs.Common.{subst}
use Rattle.io_streams.specs.Pending.{untried_on}
use Rattle.io_scheduler.proofs.LeftOnLemmas.{AreLeft, all_left, one_left, over_left}
use Rattle.io_scheduler.proofs.closing.abort_rest.Goals as goal

pub ops-preserved : goal.ops-preserved
ops-preserved g c = record {
  aborted = one_left g.C.Named.limits c.abort_next-more.result (untried_on c.args.name c.args.streams.now)
      (untried_on c.args.name c.ops.streams) (untried_on c.args.name c.abort_next-more.new.streams) c.args.keeper.now.past
      c.ops.keeper.past c.abort_next-more.new.keeper.past c.abort_next-more.ensures.aborted c.ops.invariant.aborted;
  over = over_left g.C.Named.limits c.abort_next-more.result (untried_on c.args.name c.ops.streams)
      (untried_on c.args.name c.abort_next-more.new.streams) c.ops.keeper.past c.abort_next-more.new.keeper.past
      c.abort_next-more.ensures.aborted;
  none = c.abort_next-more.ensures.none;
  closing = c.abort_next-more.ensures.closing;
}

pub returns-clause-aborted : goal.returns-clause-aborted
returns-clause-aborted g c =
    all_left g.C.Named.limits (untried_on c.args.name c.args.streams.now) c.args.keeper.now.past c.ops.keeper.past
    (subst (λ l. AreLeft g.C.Named.limits (untried_on c.args.name c.args.streams.now) l c.args.keeper.now.past c.ops.keeper.past)
    (c.ops.invariant.over c.ops-test.false) c.ops.invariant.aborted)

pub returns-clause-over : goal.returns-clause-over
returns-clause-over g c = c.ops.invariant.over c.ops-test.false
