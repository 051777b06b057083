use Rattle.io_rules.specs.Legal.{state_of}
use Rattle.io_scheduler.proofs.ReturnedLemmas.{has_returned, stale}
use Rattle.io_scheduler.proofs.scheduler.Scheduler.back.Goals as goal

pub invariant_of-self : goal.invariant_of-self
invariant_of-self g c = (
  c.come_back.ensures.none,
  c.come_back.ensures.shows,
  c.come_back.ensures.tally,
  c.come_back.ensures.waits,
  c.come_back.ensures.streams,
)

pub returns-in-None-clause-refused : goal.returns-in-None-clause-refused
returns-in-None-clause-refused g c =
    rw (← c.self.view_is)
    (stale g.H.Handler.marks g.C.Named.limits c.self.inside.streams (state_of g.C.Named.limits c.self.inside.keeper.past)
    c.args.attempt.stream c.args.attempt.side c.args.gave c.self.invariant.4 c.in-None.ensures.none)

pub returns-in-Some-clause-returned : goal.returns-in-Some-clause-returned
returns-in-Some-clause-returned g c =
    rw (← c.self.view_is)
    (has_returned g.C.Named.limits c.args.attempt.stream c.args.attempt.side c.args.gave c.self.inside.keeper.past
    c.come_back.new.keeper.past c.come_back.ensures.back)
