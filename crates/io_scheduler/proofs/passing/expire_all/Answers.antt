use Rattle.io_scheduler.proofs.PassedLemmas.{one_more, over_now}
use Rattle.io_scheduler.proofs.passing.expire_all.Goals as goal

pub waits-preserved : goal.waits-preserved
waits-preserved g c = record {
  expired = one_more g.C.Named.limits c.expire_one-more.result c.args.keeper.now.past c.waits.keeper.past
      c.expire_one-more.new.keeper.past c.waits.invariant.expired c.expire_one-more.ensures.expired;
  over = over_now g.C.Named.limits c.expire_one-more.result c.waits.keeper.past c.expire_one-more.new.keeper.past
      c.expire_one-more.ensures.expired;
  none = c.expire_one-more.ensures.none;
  shows = c.expire_one-more.ensures.shows;
  waits = c.expire_one-more.ensures.waits;
  tally = c.expire_one-more.ensures.tally;
}
