use Rattle.io_timers.proofs.FirstLemmas.{first_there, first_is, first_isnt}
use Rattle.io_timers.proofs.timers.Timers.first_place.Goals as goal

pub returns-clause-there : goal.returns-clause-there
returns-clause-there g c =
    rw (← c.self.view_is) (first_there _ _ _ c.self.invariant c.args.timer.place c.first.result c.first.ensures)

pub returns-clause-first : goal.returns-clause-first
returns-clause-first g c =
    rw (← c.self.view_is)
    (first_is _ _ _ c.self.invariant c.args.timer (rw (← c.self.view_is) at c.requires.only) c.first.result c.first.ensures)

pub returns-clause-none : goal.returns-clause-none
returns-clause-none g c =
    rw (← c.self.view_is)
    (first_isnt _ _ _ c.self.invariant c.args.timer (rw (← c.self.view_is) at c.requires.only) c.first.result c.first.ensures)
