use Rattle.std.proofs.Common.{sym, ◌∙◌}
use Rattle.io_streams.proofs.CancelLemmas.{untried_first, untried_there}
use Rattle.io_streams.proofs.LeftLemmas.{taken_found, there_queued}
use Rattle.io_streams.proofs.streams.Streams.first_untried_of.Goals as goal

pub get-requires : goal.get-requires
get-requires g c =
    there_queued _ _ c.self.invariant c.in-Some.place
    (untried_there _ _ c.self.invariant c.args.name c.self.inside.queues.room c.args.side c.in-Some.place
    (sym c.in-Some.is ∙ (rw (← c.self.view_is) at c.untried_place.ensures)))

pub returns-in-Some : goal.returns-in-Some
returns-in-Some g c =
    rw (← c.self.view_is)
    (untried_first _ _ c.self.invariant c.args.name c.self.inside.queues.room c.args.side c.untried_place.result
    (rw (← c.self.view_is) at c.untried_place.ensures) c.in-Some.place c.in-Some.is c.get.result.now
    (taken_found _ _ c.self.invariant c.in-Some.place _ c.get.ensures))
