use Rattle.io_rules.specs.Legal.{state_of}
use Rattle.io_names.specs.Tables.{names_of}
use Rattle.io_scheduler.proofs.ServingLemmas.{one_settled, over_now, over_shows, over_streams, over_tally, over_waits}
use Rattle.io_scheduler.proofs.settling.settle_side.Goals as goal

pub ops-preserved : goal.ops-preserved
ops-preserved g c = record {
  settled = one_settled g.C.Named.limits c.settle_first-more.result c.args.keeper.now.past c.ops.keeper.past
      c.settle_first-more.new.keeper.past c.ops.invariant.settled c.settle_first-more.ensures.settled;
  over = over_now c.args.name c.args.side c.settle_first-more.new.streams c.settle_first-more.result
      c.settle_first-more.ensures.over;
  none = c.settle_first-more.ensures.none;
  serving = c.settle_first-more.ensures.serving;
}

pub returns-clause-shows : goal.returns-clause-shows
returns-clause-shows g c =
    over_shows g.H.Handler.marks g.C.Named.limits c.args.counts.now (names_of c.args.names.now) c.ops.strands.items c.ops.jobs
    c.args.timers.now c.ops.streams c.ops.tally c.args.name c.args.side (state_of g.C.Named.limits c.ops.keeper.past)
    c.ops.invariant.serving (c.ops.invariant.over c.ops-test.false)

pub returns-clause-waits : goal.returns-clause-waits
returns-clause-waits g c =
    over_waits g.H.Handler.marks g.C.Named.limits c.args.counts.now (names_of c.args.names.now) c.ops.strands.items c.ops.jobs
    c.args.timers.now c.ops.streams c.ops.tally c.args.name c.args.side (state_of g.C.Named.limits c.ops.keeper.past)
    c.ops.invariant.serving (c.ops.invariant.over c.ops-test.false)

pub returns-clause-tally : goal.returns-clause-tally
returns-clause-tally g c =
    over_tally g.H.Handler.marks g.C.Named.limits c.args.counts.now (names_of c.args.names.now) c.ops.strands.items c.ops.jobs
    c.args.timers.now c.ops.streams c.ops.tally c.args.name c.args.side (state_of g.C.Named.limits c.ops.keeper.past)
    c.ops.invariant.serving (c.ops.invariant.over c.ops-test.false)

pub returns-clause-streams : goal.returns-clause-streams
returns-clause-streams g c =
    over_streams g.H.Handler.marks g.C.Named.limits c.args.counts.now (names_of c.args.names.now) c.ops.strands.items c.ops.jobs
    c.args.timers.now c.ops.streams c.ops.tally c.args.name c.args.side (state_of g.C.Named.limits c.ops.keeper.past)
    c.ops.invariant.serving (c.ops.invariant.over c.ops-test.false)
