use Rattle.std.proofs.Common.{subst, sym}
use Rattle.io_rules.specs.Legal.{MayHappen, state_of}
use Rattle.io_scheduler.specs.Outside.{IsOutside}
use Rattle.io_scheduler.proofs.OpenedLemmas.{may_make_socket, outside_made}
use Rattle.io_scheduler.proofs.opening.note_made.Goals as goal

pub note_section-requires-clause-outside : goal.note_section-requires-clause-outside
note_section-requires-clause-outside g c = subst IsOutside (sym c.requires.event) (outside_made c.args.listener c.args.name)

pub note_section-requires-clause-may : goal.note_section-requires-clause-may
note_section-requires-clause-may g c =
    subst (MayHappen (state_of g.C.Named.limits c.args.keeper.now.past)) (sym c.requires.event)
    (may_make_socket (state_of g.C.Named.limits c.args.keeper.now.past) c.args.listener c.args.name c.requires.going c.requires.free)
