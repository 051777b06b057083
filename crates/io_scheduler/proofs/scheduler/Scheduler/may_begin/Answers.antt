use Rattle.std.proofs.Common.{refl, sym, ◌∙◌}
use Rattle.io_rules.specs.Legal.{state_of}
use Rattle.io_names.specs.Tables.{names_of}
use Rattle.io_scheduler.proofs.ListedLemmas.{flag_is}
use Rattle.io_scheduler.proofs.TakenLemmas.{none_begins}
use Rattle.io_scheduler.proofs.scheduler.Scheduler.may_begin.Goals as goal

pub returns-then-is_empty : goal.returns-then-is_empty
returns-then-is_empty g c =
    λ none.
    let shows = c.self.invariant.1 in
    rw (← c.self.view_is)
    (none_begins g.H.Handler.marks g.C.Named.limits c.self.inside.counts (names_of c.self.inside.names)
    c.self.inside.strands.items c.self.inside.jobs (state_of g.C.Named.limits c.self.inside.keeper.past)
    (c.if-is_empty.ensures.empty.0 refl)
    (λ place.
    sym (flag_is c.self.inside.strands.items c.self.inside.jobs place shows.listed)
    ∙ c.if-is_empty.ensures.none refl place)
    shows)
