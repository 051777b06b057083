use Rattle.io_rules.specs.Legal.{state_of}
use Rattle.io_names.specs.Tables.{names_of}
use Rattle.io_scheduler.proofs.ServingLemmas.{settling_now}
use Rattle.io_scheduler.proofs.settling.settle_first.Goals as goal

pub complete_first-requires-clause-settling : goal.complete_first-requires-clause-settling
complete_first-requires-clause-settling g c =
    settling_now g.H.Handler.marks g.C.Named.limits c.args.counts.now (names_of c.args.names.now) c.args.strands.now.items
    c.args.jobs.now c.args.timers.now c.args.streams.now c.args.tally.now c.args.name c.args.side
    (state_of g.C.Named.limits c.args.keeper.now.past) c.requires.serving
    c.in-Some.first.place c.in-Some.first.gets.code c.in-Some.first.gets.size c.in-Some.ensures.some
