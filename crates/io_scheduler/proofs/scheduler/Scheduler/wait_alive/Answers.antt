use Rattle.std.proofs.Common.{ap}
use Rattle.std.specs.Prelude.{None}
use Rattle.io_rules.specs.declared.event.Event.TheVariants as event
use Rattle.io_rules.specs.declared.request.Gone.TheVariants as gone
use Rattle.io_rules.specs.Legal.{state_of}
use Rattle.io_scheduler.specs.Accepted.{waiting_on}
use Rattle.io_scheduler.proofs.SectionLemmas.{notes_one}
use Rattle.io_scheduler.proofs.StreamedLemmas.{still_waiting, streams_still}
use Rattle.io_scheduler.proofs.TallyLemmas.{tally_waits}
use Rattle.io_scheduler.proofs.scheduler.Scheduler.wait_alive.Goals as goal

pub accept_wait-requires : goal.accept_wait-requires
accept_wait-requires g c = record {
  table = c.requires.table;
  none = c.self.invariant.0;
  may = rw (← c.self.view_is) at c.requires.may;
  shows = c.self.invariant.1;
  waits = c.self.invariant.3;
}

pub invariant_of-self : goal.invariant_of-self
invariant_of-self g c = (
  c.accept_wait.ensures.none,
  c.accept_wait.ensures.shows,
  rw c.accept_wait.ensures.past
      (tally_waits c.self.inside.tally (state_of g.C.Named.limits c.self.inside.keeper.past) c.accept_wait.result.op None
      c.args.lane c.args.timer (g.H.Handler.marks c.args.handler) c.self.invariant.2),
  c.accept_wait.ensures.waits,
  rw c.accept_wait.ensures.past
      (streams_still g.H.Handler.marks g.C.Named.limits c.self.inside.streams (state_of g.C.Named.limits c.self.inside.keeper.past) _ c.self.invariant.4
      (still_waiting (state_of g.C.Named.limits c.self.inside.keeper.past) c.accept_wait.result.op None c.args.lane c.args.timer
      (g.H.Handler.marks c.args.handler))),
)

pub returns-clause-initiated : goal.returns-clause-initiated
returns-clause-initiated g c =
    rw (← c.self.view_is)
    (record { may = c.accept_wait.ensures.may; is = ap (state_of g.C.Named.limits) c.accept_wait.ensures.past })

pub returns-clause-noted : goal.returns-clause-noted
returns-clause-noted g c =
    rw (← c.self.view_is, c.accept_wait.ensures.past)
    (notes_one g.C.Named.limits (event.Called c.accept_wait.result.op None
    (waiting_on c.args.lane c.args.timer (g.H.Handler.marks c.args.handler)) gone.Nothing) _ _ c.self.inside.keeper.past
    c.accept_wait.ensures.before c.accept_wait.ensures.after)
