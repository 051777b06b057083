use Rattle.std.proofs.Common.{subst}
use Rattle.std.specs.Prelude.{Some}
use Rattle.io_rules.specs.Legal.{state_of}
use Rattle.io_names.specs.Tables.{names_of}
use Rattle.io_scheduler.proofs.StreamedLemmas.{streams_still}
use Rattle.io_scheduler.specs.Opened.{socket_kind}
use Rattle.io_scheduler.specs.Closing.{frees}
use Rattle.io_scheduler.specs.Come.{LeadTo}
use Rattle.io_scheduler.proofs.ClosedByLemmas.{after_absent, frees_absent}
use Rattle.io_scheduler.proofs.TimingLemmas.{gone_shown, gone_tallied, gone_waits, still_gone}
use Rattle.io_scheduler.proofs.scheduler.Scheduler.close_gone_by.Goals as goal

pub begin_close-requires : goal.begin_close-requires
begin_close-requires g c = record {
  table = c.requires.table;
  none = c.self.invariant.0;
  going = c.self.invariant.1.going;
}

pub invariant_of-self : goal.invariant_of-self
invariant_of-self g c =
    let s = state_of g.C.Named.limits c.self.inside.keeper.past in
    let is = after_absent s (Some c.args.running.op) c.args.name c.args.listener (rw (← c.self.view_is) at c.requires.gone) in (
      c.begin_close.ensures.none,
      rw c.begin_close.ensures.come.is (gone_shown g.H.Handler.marks g.C.Named.limits c.self.inside.counts (names_of c.self.inside.names)
          c.self.inside.strands.items c.self.inside.jobs c.self.inside.timers c.self.inside.tally s _ is c.self.invariant.1),
      rw c.begin_close.ensures.come.is (gone_tallied g.H.Handler.marks g.C.Named.limits c.self.inside.counts (names_of c.self.inside.names)
          c.self.inside.strands.items c.self.inside.jobs c.self.inside.timers c.self.inside.tally s _ is c.self.invariant.2),
      rw c.begin_close.ensures.come.is (gone_waits g.H.Handler.marks g.C.Named.limits c.self.inside.counts (names_of c.self.inside.names)
          c.self.inside.strands.items c.self.inside.jobs c.self.inside.timers c.self.inside.tally s _ is c.self.invariant.3),
      rw c.begin_close.ensures.come.is
          (streams_still g.H.Handler.marks g.C.Named.limits c.self.inside.streams s _ c.self.invariant.4 (still_gone s _ is)),
    )

pub returns-clause-changed : goal.returns-clause-changed
returns-clause-changed g c =
    subst
    (λ v. LeadTo (frees (Some c.args.running.op) (socket_kind c.args.listener) c.args.name v) v (state_of g.C.Named.limits c.begin_close.new.keeper.past))
    c.self.view_is
    (frees_absent g.C.Named.limits c.args.running.op c.args.name c.args.listener c.self.inside.keeper.past _
    (rw (← c.self.view_is) at c.requires.gone) c.begin_close.ensures.come)
