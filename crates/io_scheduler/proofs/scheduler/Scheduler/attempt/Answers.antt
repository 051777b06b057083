use Rattle.io_rules.specs.Legal.{state_of}
use Rattle.io_names.specs.Tables.{names_of}
use Rattle.io_scheduler.proofs.TriedLemmas.{attempt_shown, attempt_waits, untriable}
use Rattle.io_scheduler.proofs.scheduler.Scheduler.attempt.Goals as goal

pub invariant_of-self : goal.invariant_of-self
invariant_of-self g c = (
  c.begin.ensures.none,
  attempt_shown g.H.Handler.marks g.C.Named.limits c.self.inside.counts (names_of c.self.inside.names)
      (names_of c.begin.new.names) c.self.inside.strands.items c.self.inside.jobs c.self.inside.timers c.self.inside.streams
      c.args.name c.args.side c.self.inside.keeper.past c.begin.new.keeper.past c.begin.result c.begin.ensures.tried
      c.begin.ensures.same c.begin.ensures.names c.self.invariant.1,
  c.begin.ensures.tally,
  attempt_waits g.H.Handler.marks g.C.Named.limits c.self.inside.counts (names_of c.self.inside.names)
      (names_of c.begin.new.names) c.self.inside.strands.items c.self.inside.jobs c.self.inside.timers c.self.inside.streams
      c.args.name c.args.side c.self.inside.keeper.past c.begin.new.keeper.past c.begin.result c.begin.ensures.tried
      c.begin.ensures.same c.self.invariant.4 c.self.invariant.3,
  c.begin.ensures.streams,
)

pub returns-in-None-clause-none : goal.returns-in-None-clause-none
returns-in-None-clause-none g c =
    rw (← c.self.view_is)
    (untriable g.H.Handler.marks g.C.Named.limits c.self.inside.streams
    (state_of g.C.Named.limits c.self.inside.keeper.past) c.args.name c.args.side c.self.invariant.4 c.in-None.ensures.none)
