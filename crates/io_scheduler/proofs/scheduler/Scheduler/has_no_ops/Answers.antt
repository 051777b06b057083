use Rattle.std.proofs.Common.{sym}
use Rattle.io_rules.specs.Legal.{state_of}
use Rattle.io_scheduler.proofs.TallyLemmas.{none_left, some_left}
use Rattle.io_scheduler.proofs.scheduler.Scheduler.has_no_ops.Goals as goal

pub returns-in-None : goal.returns-in-None
returns-in-None g c =
    rw (← c.self.view_is)
    (sym
    (none_left g.H.Handler.marks g.C.Named.limits c.self.inside.timers c.self.inside.tally
    (state_of g.C.Named.limits c.self.inside.keeper.past) c.self.invariant.2 c.self.invariant.3
    (c.is_none.ensures.none c.if-not-is_none.false) c.in-None.ensures))

pub returns-in-Some : goal.returns-in-Some
returns-in-Some g c =
    rw (← c.self.view_is)
    (sym
    (some_left g.H.Handler.marks g.C.Named.limits c.self.inside.timers c.self.inside.tally
    (state_of g.C.Named.limits c.self.inside.keeper.past) _ c.self.invariant.2 c.self.invariant.3 c.in-Some.ensures))
