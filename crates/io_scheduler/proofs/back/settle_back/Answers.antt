use Rattle.std.proofs.Common.{false, refl}
use Rattle.io_rules.specs.Legal.{state_of}
use Rattle.io_names.specs.Tables.{names_of}
use Rattle.io_scheduler.proofs.LeavingLemmas.{first_within}
use Rattle.io_scheduler.proofs.ReturnedLemmas.{back_settling, back_shown, back_streams, back_tallied, back_waits, came_on, came_settled, return_may}
use Rattle.io_scheduler.proofs.back.settle_back.Goals as goal

pub take_back-brought-requires-clause-may : goal.take_back-brought-requires-clause-may
take_back-brought-requires-clause-may g c =
    return_may g.H.Handler.marks g.C.Named.limits c.args.streams.now (state_of g.C.Named.limits c.args.keeper.now.past)
    c.args.name c.args.side c.args.gave c.requires.streams c.requires.held c.requires.shows.going c.args.place
    c.requires.returnable

pub take_back-brought-requires-clause-within : goal.take_back-brought-requires-clause-within
take_back-brought-requires-clause-within g c =
    first_within c.args.streams.now.streams c.args.name c.args.side c.requires.returnable.op.op
    c.requires.returnable.head.first

pub complete_first-requires-clause-settling : goal.complete_first-requires-clause-settling
complete_first-requires-clause-settling g c =
    rw (
      c.take_back-brought.ensures.past,
      c.take_back-brought.ensures.names,
      c.take_back-brought.ensures.streams,
      c.take_back-brought.ensures.tally,
    )
    (back_settling g.H.Handler.marks g.C.Named.limits c.args.counts.now (names_of c.args.names.now) c.args.strands.now.items
    c.args.jobs.now c.args.timers.now c.args.streams.now c.args.tally.now c.args.name c.args.side c.args.gave
    (state_of g.C.Named.limits c.args.keeper.now.past) c.args.place c.args.buffer false c.requires.open_still c.requires.shows
    c.requires.waits c.requires.tally c.requires.streams c.holds.ensures c.requires.returnable
    c.take_back-brought.result.came c.take_back-brought.ensures.came c.take_back-brought.result.made
    c.take_back-brought.ensures.made _ c.in-Settles.is c.take_back-brought.ensures.unused refl)

pub returns-in-Settles-clause-back : goal.returns-in-Settles-clause-back
returns-in-Settles-clause-back g c =
    came_settled g.C.Named.limits c.args.name c.args.side c.args.gave c.args.keeper.now.past
    c.settle_side.new.keeper.past
    (return_may g.H.Handler.marks g.C.Named.limits c.args.streams.now (state_of g.C.Named.limits c.args.keeper.now.past)
    c.args.name c.args.side c.args.gave c.requires.streams c.requires.held c.requires.shows.going c.args.place
    c.requires.returnable)
    c.complete_first.new.keeper.past (rw c.take_back-brought.ensures.past at c.complete_first.ensures.settled)
    c.settle_side.ensures.settled

pub returns-in-On-clause-back : goal.returns-in-On-clause-back
returns-in-On-clause-back g c =
    came_on g.C.Named.limits c.args.name c.args.side c.args.gave c.args.keeper.now.past
    c.take_back-brought.new.keeper.past
    (return_may g.H.Handler.marks g.C.Named.limits c.args.streams.now (state_of g.C.Named.limits c.args.keeper.now.past)
    c.args.name c.args.side c.args.gave c.requires.streams c.requires.held c.requires.shows.going c.args.place
    c.requires.returnable)
    c.take_back-brought.ensures.past

pub returns-in-On-clause-shows : goal.returns-in-On-clause-shows
returns-in-On-clause-shows g c =
    rw (c.take_back-brought.ensures.past, c.take_back-brought.ensures.names)
    (back_shown g.H.Handler.marks g.C.Named.limits c.args.counts.now (names_of c.args.names.now) c.args.strands.now.items
    c.args.jobs.now c.args.timers.now c.args.streams.now c.args.tally.now c.args.name c.args.side c.args.gave
    (state_of g.C.Named.limits c.args.keeper.now.past) c.args.place c.args.buffer false c.requires.open_still c.requires.shows
    c.requires.waits c.requires.tally c.requires.streams c.holds.ensures c.requires.returnable
    c.take_back-brought.result.came c.take_back-brought.ensures.came c.take_back-brought.result.made
    c.take_back-brought.ensures.made _ c.in-On.is refl)

pub returns-in-On-clause-waits : goal.returns-in-On-clause-waits
returns-in-On-clause-waits g c =
    rw c.take_back-brought.ensures.past
    (back_waits g.H.Handler.marks g.C.Named.limits c.args.counts.now (names_of c.args.names.now) c.args.strands.now.items
    c.args.jobs.now c.args.timers.now c.args.streams.now c.args.tally.now c.args.name c.args.side c.args.gave
    (state_of g.C.Named.limits c.args.keeper.now.past) c.args.place c.args.buffer false c.requires.open_still c.requires.shows
    c.requires.waits c.requires.tally c.requires.streams c.holds.ensures c.requires.returnable
    c.take_back-brought.result.came c.take_back-brought.ensures.came c.take_back-brought.result.made
    c.take_back-brought.ensures.made _ c.in-On.is refl)

pub returns-in-On-clause-tally : goal.returns-in-On-clause-tally
returns-in-On-clause-tally g c =
    rw (c.take_back-brought.ensures.past, c.take_back-brought.ensures.tally)
    (back_tallied g.H.Handler.marks g.C.Named.limits c.args.counts.now (names_of c.args.names.now) c.args.strands.now.items
    c.args.jobs.now c.args.timers.now c.args.streams.now c.args.tally.now c.args.name c.args.side c.args.gave
    (state_of g.C.Named.limits c.args.keeper.now.past) c.args.place c.args.buffer false c.requires.open_still c.requires.shows
    c.requires.waits c.requires.tally c.requires.streams c.holds.ensures c.requires.returnable
    c.take_back-brought.result.came c.take_back-brought.ensures.came c.take_back-brought.result.made
    c.take_back-brought.ensures.made _ c.in-On.is refl)

pub returns-in-On-clause-streams : goal.returns-in-On-clause-streams
returns-in-On-clause-streams g c =
    rw (c.take_back-brought.ensures.past, c.take_back-brought.ensures.streams)
    (back_streams g.H.Handler.marks g.C.Named.limits c.args.counts.now (names_of c.args.names.now) c.args.strands.now.items
    c.args.jobs.now c.args.timers.now c.args.streams.now c.args.tally.now c.args.name c.args.side c.args.gave
    (state_of g.C.Named.limits c.args.keeper.now.past) c.args.place c.args.buffer false c.requires.open_still c.requires.shows
    c.requires.waits c.requires.tally c.requires.streams c.holds.ensures c.requires.returnable
    c.take_back-brought.result.came c.take_back-brought.ensures.came c.take_back-brought.result.made
    c.take_back-brought.ensures.made _ c.in-On.is refl)
