use Rattle.std.proofs.Common.{sym, ◌∙◌}
use Rattle.io_timers.proofs.TimersLemmas.{expiry_kept, expiry_set, waits_are}
use Rattle.io_timers.proofs.timers.Timers.set_expiry.Goals as goal

pub invariant_of-self : goal.invariant_of-self
invariant_of-self g c =
    expiry_kept _ _ _ c.self.invariant c.args.timer.place c.args.at
    (sym (waits_are _ _ _ c.self.invariant c.args.timer (rw (← c.self.view_is) at c.requires.only))
    ∙ (rw (← c.self.view_is) at c.requires.none))

pub returns : goal.returns
returns g c = rw (← c.self.view_is) (expiry_set _ _ _ c.self.invariant c.args.timer c.args.at _)
