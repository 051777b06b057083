use Rattle.std.proofs.Common.{None, Some, subst}
use Rattle.io_timers.specs.Tournament.{IsFirst}
use Rattle.io_timers.proofs.EarliestLemmas.{expiry_is}
use Rattle.io_timers.proofs.timers.Timers.next_expiry.Goals as goal

pub returns-in-Some : goal.returns-in-Some
returns-in-Some g c =
    rw (← c.self.view_is)
    (expiry_is _ _ _ c.self.invariant (Some c.in-Some.first)
    (subst (IsFirst c.self.inside.firsts) c.in-Some.is c.first.ensures))

pub returns-in-None : goal.returns-in-None
returns-in-None g c =
    rw (← c.self.view_is)
    (expiry_is _ _ _ c.self.invariant None (subst (IsFirst c.self.inside.firsts) c.in-None.is c.first.ensures))
