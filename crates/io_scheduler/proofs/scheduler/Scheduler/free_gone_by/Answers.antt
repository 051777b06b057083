use Rattle.std.specs.Prelude.{Some}
use Rattle.io_rules.specs.declared.control.Control.TheVariants as control
use Rattle.io_rules.specs.declared.name.Kind.TheVariants as kind
use Rattle.io_rules.specs.Legal.{state_of}
use Rattle.io_names.specs.Tables.{names_of}
use Rattle.io_scheduler.proofs.StrandMadeLemmas.{after_freed, none_forgotten}
use Rattle.io_scheduler.proofs.StreamedLemmas.{streams_still}
use Rattle.io_scheduler.proofs.TimingLemmas.{gone_shown, gone_tallied, gone_waits, is_changed, still_gone}
use Rattle.io_scheduler.proofs.scheduler.Scheduler.free_gone_by.Goals as goal

pub begin_free-requires : goal.begin_free-requires
begin_free-requires g c = record {
  table = c.requires.table;
  none = c.self.invariant.0;
  going = c.self.invariant.1.going;
}

pub invariant_of-self : goal.invariant_of-self
invariant_of-self g c =
    let s = state_of g.C.Named.limits c.self.inside.keeper.past in
    let is = after_freed s (Some c.args.running.op) c.args.name (rw (← c.self.view_is) at c.requires.gone) in (
      c.begin_free.ensures.none,
      rw c.begin_free.ensures.come.is (gone_shown g.H.Handler.marks g.C.Named.limits c.self.inside.counts (names_of c.self.inside.names)
          c.self.inside.strands.items c.self.inside.jobs c.self.inside.timers c.self.inside.tally s _ is c.self.invariant.1),
      rw c.begin_free.ensures.come.is (gone_tallied g.H.Handler.marks g.C.Named.limits c.self.inside.counts (names_of c.self.inside.names)
          c.self.inside.strands.items c.self.inside.jobs c.self.inside.timers c.self.inside.tally s _ is c.self.invariant.2),
      rw c.begin_free.ensures.come.is (gone_waits g.H.Handler.marks g.C.Named.limits c.self.inside.counts (names_of c.self.inside.names)
          c.self.inside.strands.items c.self.inside.jobs c.self.inside.timers c.self.inside.tally s _ is c.self.invariant.3),
      rw c.begin_free.ensures.come.is
          (streams_still g.H.Handler.marks g.C.Named.limits c.self.inside.streams s _ c.self.invariant.4 (still_gone s _ is)),
    )

pub returns-clause-changed : goal.returns-clause-changed
returns-clause-changed g c =
    rw (← c.self.view_is)
    (is_changed g.C.Named.limits (Some c.args.running.op) (control.Free kind.Strand c.args.name) c.self.inside.keeper.past _
    c.begin_free.ensures.come)

pub returns-clause-none : goal.returns-clause-none
returns-clause-none g c =
    rw (← c.self.view_is)
    (none_forgotten (state_of g.C.Named.limits c.self.inside.keeper.past) c.args.name
    (rw (← c.self.view_is) at c.requires.gone))
