use Rattle.io_rules.specs.Legal.{state_of}
use Rattle.io_names.specs.Tables.{names_of}
use Rattle.io_scheduler.proofs.LeaveBackLemmas.{back_left, never_on}
use Rattle.io_scheduler.proofs.LeavingLemmas.{first_within}
use Rattle.io_scheduler.proofs.ReturnedLemmas.{came_settled, return_may}
use Rattle.io_scheduler.proofs.ServingLemmas.{none_settled}
use Rattle.io_scheduler.proofs.closed.leave_back.Goals as goal

pub take_back-brought-requires-clause-may : goal.take_back-brought-requires-clause-may
take_back-brought-requires-clause-may g c =
    return_may g.H.Handler.marks g.C.Named.limits c.args.streams.now (state_of g.C.Named.limits c.args.keeper.now.past)
    c.args.name c.args.side c.args.gave c.requires.streams c.requires.held c.requires.shows.going c.args.place
    c.requires.returnable

pub take_back-brought-requires-clause-within : goal.take_back-brought-requires-clause-within
take_back-brought-requires-clause-within g c =
    first_within c.args.streams.now.streams c.args.name c.args.side c.requires.returnable.op.op
    c.requires.returnable.head.first

pub complete_left-requires-clause-leaving : goal.complete_left-requires-clause-leaving
complete_left-requires-clause-leaving g c =
    rw (
      c.take_back-brought.ensures.past,
      c.take_back-brought.ensures.names,
      c.take_back-brought.ensures.streams,
      c.take_back-brought.ensures.tally,
    )
    (back_left g.H.Handler.marks g.C.Named.limits c.args.counts.now (names_of c.args.names.now) c.args.strands.now.items
    c.args.jobs.now c.args.timers.now c.args.streams.now c.args.tally.now c.args.name c.args.side c.args.gave
    c.args.keeper.now.past c.args.place c.args.buffer c.take_back-brought.ensures.legal c.requires.leaving
    c.requires.shows c.requires.waits c.requires.tally c.requires.streams c.holds.ensures c.requires.returnable
    c.take_back-brought.result.came c.take_back-brought.ensures.came c.take_back-brought.result.made
    c.take_back-brought.ensures.made
    _ c.in-Settles.is c.take_back-brought.ensures.unused)

pub returns-in-Settles-clause-back : goal.returns-in-Settles-clause-back
returns-in-Settles-clause-back g c =
    came_settled g.C.Named.limits c.args.name c.args.side c.args.gave c.args.keeper.now.past
    c.complete_left.new.keeper.past
    (return_may g.H.Handler.marks g.C.Named.limits c.args.streams.now (state_of g.C.Named.limits c.args.keeper.now.past)
    c.args.name c.args.side c.args.gave c.requires.streams c.requires.held c.requires.shows.going c.args.place
    c.requires.returnable)
    c.complete_left.new.keeper.past (rw c.take_back-brought.ensures.past at c.complete_left.ensures.settled)
    (none_settled g.C.Named.limits c.complete_left.new.keeper.past)

pub returns-in-On-clause-back : goal.returns-in-On-clause-back
returns-in-On-clause-back g c =
    absurd
    (never_on g.H.Handler.marks g.C.Named.limits c.args.keeper.now.past c.args.streams.now c.args.name c.args.side
    c.args.place c.args.gave c.take_back-brought.ensures.legal c.requires.shows.settled c.requires.streams
    c.requires.leaving c.requires.returnable c.holds.ensures c.take_back-brought.result.came _ c.take_back-brought.ensures.came
    c.in-On.is)

pub returns-in-On-clause-shows : goal.returns-in-On-clause-shows
returns-in-On-clause-shows g c =
    absurd
    (never_on g.H.Handler.marks g.C.Named.limits c.args.keeper.now.past c.args.streams.now c.args.name c.args.side
    c.args.place c.args.gave c.take_back-brought.ensures.legal c.requires.shows.settled c.requires.streams
    c.requires.leaving c.requires.returnable c.holds.ensures c.take_back-brought.result.came _ c.take_back-brought.ensures.came
    c.in-On.is)

pub returns-in-On-clause-waits : goal.returns-in-On-clause-waits
returns-in-On-clause-waits g c =
    absurd
    (never_on g.H.Handler.marks g.C.Named.limits c.args.keeper.now.past c.args.streams.now c.args.name c.args.side
    c.args.place c.args.gave c.take_back-brought.ensures.legal c.requires.shows.settled c.requires.streams
    c.requires.leaving c.requires.returnable c.holds.ensures c.take_back-brought.result.came _ c.take_back-brought.ensures.came
    c.in-On.is)

pub returns-in-On-clause-tally : goal.returns-in-On-clause-tally
returns-in-On-clause-tally g c =
    absurd
    (never_on g.H.Handler.marks g.C.Named.limits c.args.keeper.now.past c.args.streams.now c.args.name c.args.side
    c.args.place c.args.gave c.take_back-brought.ensures.legal c.requires.shows.settled c.requires.streams
    c.requires.leaving c.requires.returnable c.holds.ensures c.take_back-brought.result.came _ c.take_back-brought.ensures.came
    c.in-On.is)

pub returns-in-On-clause-streams : goal.returns-in-On-clause-streams
returns-in-On-clause-streams g c =
    absurd
    (never_on g.H.Handler.marks g.C.Named.limits c.args.keeper.now.past c.args.streams.now c.args.name c.args.side
    c.args.place c.args.gave c.take_back-brought.ensures.legal c.requires.shows.settled c.requires.streams
    c.requires.leaving c.requires.returnable c.holds.ensures c.take_back-brought.result.came _ c.take_back-brought.ensures.came
    c.in-On.is)
