use Rattle.std.proofs.Common.{sym, ◌∙◌}
use Rattle.io_streams.proofs.CancelLemmas.{cancel_first, cancel_none, cancel_there}
use Rattle.io_streams.proofs.streams.Streams.untried.Goals as goal

pub returns-in-Some-clause-there : goal.returns-in-Some-clause-there
returns-in-Some-clause-there g c =
    rw (← c.self.view_is)
    (cancel_there _ _ c.self.invariant c.args.name c.self.inside.queues.room (rw (← c.self.view_is) at c.requires.only)
    c.in-Some.first (sym c.in-Some.is ∙ (rw (← c.self.view_is) at c.first_untried.ensures)))

pub returns-in-Some-clause-first : goal.returns-in-Some-clause-first
returns-in-Some-clause-first g c =
    rw (← c.self.view_is)
    (cancel_first _ _ c.self.invariant c.args.name c.self.inside.queues.room (rw (← c.self.view_is) at c.requires.only)
    c.in-Some.first (sym c.in-Some.is ∙ (rw (← c.self.view_is) at c.first_untried.ensures)))

pub returns-in-None-clause-none : goal.returns-in-None-clause-none
returns-in-None-clause-none g c =
    rw (← c.self.view_is)
    (cancel_none _ _ c.self.invariant c.args.name c.self.inside.queues.room (rw (← c.self.view_is) at c.requires.only)
    (sym c.in-None.is ∙ (rw (← c.self.view_is) at c.first_untried.ensures)))
