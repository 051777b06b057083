use Rattle.std.proofs.Common.{subst}
use Rattle.io_timers.specs.Tournament.{IsFirst}
use Rattle.io_timers.proofs.FirstLemmas.{all_taken, first_there, next_found}
use Rattle.io_timers.proofs.timers.Timers.next_place.Goals as goal

pub returns-in_default-clause-none : goal.returns-in_default-clause-none
returns-in_default-clause-none g c =
    rw (← c.self.view_is) (all_taken _ _ _ c.self.invariant c.first.result c.first.ensures c.in_default.not-Some)

pub returns-clause-there : goal.returns-clause-there
returns-clause-there g c =
    rw (← c.self.view_is)
    (first_there _ _ _ c.self.invariant c.in-Some.first.timer c.first-2.result c.first-2.ensures)

pub returns-clause-next : goal.returns-clause-next
returns-clause-next g c =
    rw (← c.self.view_is)
    (next_found _ _ _ c.self.invariant c.in-Some.first
    (subst (IsFirst c.self.inside.firsts) c.in-Some.is c.first.ensures) c.first-2.result c.first-2.ensures)
