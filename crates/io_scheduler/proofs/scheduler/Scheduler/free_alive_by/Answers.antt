use Rattle.std.proofs.Common.{ap, refl, ◌∙◌}
use Rattle.std.specs.Prelude.{Some}
use Rattle.std.specs.Option.{is_some}
use Rattle.io_rules.specs.declared.control.Control.TheVariants as control
use Rattle.io_rules.specs.declared.name.Kind.TheVariants as kind
use Rattle.io_rules.specs.Legal.{state_of}
use Rattle.io_names.specs.Tables.{names_of}
use Rattle.io_scheduler.proofs.FreedLemmas.{may_free, shows_freed, state_freed}
use Rattle.io_scheduler.proofs.StayedLemmas.{stays_quiet, waits_stay}
use Rattle.io_scheduler.proofs.StreamedLemmas.{streams_stay}
use Rattle.io_scheduler.proofs.TallyLemmas.{tally_changes}
use Rattle.io_scheduler.proofs.TimingLemmas.{is_changed}
use Rattle.io_scheduler.proofs.scheduler.Scheduler.free_alive_by.Goals as goal

pub begin_free-left-requires : goal.begin_free-left-requires
begin_free-left-requires g c = record {
  table = c.requires.table;
  none = rw c.learn.ensures.same c.self.invariant.0;
  going = rw c.learn.ensures.same c.self.invariant.1.going;
}

pub free_at-state-requires : goal.free_at-state-requires
free_at-state-requires g c =
    may_free g.H.Handler.marks g.C.Named.limits c.self.inside.keeper.past c.self.inside.counts
    (names_of c.self.inside.names) c.self.inside.strands.items c.self.inside.jobs c.args.name
    (rw c.learn.ensures.same at c.learn.ensures.legal) (rw (← c.self.view_is) at c.requires.alive) c.self.invariant.1

pub invariant_of-self : goal.invariant_of-self
invariant_of-self g c =
    let s = state_of g.C.Named.limits c.self.inside.keeper.past in (
      c.begin_free-left.ensures.none,
      rw (c.free_at-state.ensures.names, c.free_at-state.ensures.strands, c.begin_free-left.ensures.come.is, c.learn.ensures.same)
          (shows_freed g.H.Handler.marks g.C.Named.limits c.self.inside.keeper.past c.self.inside.counts
          (names_of c.self.inside.names) c.self.inside.strands.items c.self.inside.jobs c.args.name
          (rw c.learn.ensures.same at c.learn.ensures.legal) (rw (← c.self.view_is) at c.requires.alive) c.self.invariant.1),
      rw (c.begin_free-left.ensures.come.is, c.learn.ensures.same)
          (tally_changes c.self.inside.tally s (Some c.args.running.op) (control.Free kind.Strand c.args.name)
          c.self.invariant.2 refl),
      rw (c.begin_free-left.ensures.come.is, c.learn.ensures.same)
          (waits_stay g.H.Handler.marks g.C.Named.limits c.self.inside.timers s _ c.self.invariant.3
          (stays_quiet s _ refl refl refl refl refl)),
      rw (c.begin_free-left.ensures.come.is, c.learn.ensures.same)
          (streams_stay g.H.Handler.marks g.C.Named.limits c.self.inside.streams s _ c.self.invariant.4
          (stays_quiet s _ refl refl refl refl refl) refl),
    )

pub returns-clause-changed : goal.returns-clause-changed
returns-clause-changed g c =
    rw (← c.self.view_is)
    (is_changed g.C.Named.limits (Some c.args.running.op) (control.Free kind.Strand c.args.name) c.self.inside.keeper.past _
    (rw c.learn.ensures.same at c.begin_free-left.ensures.come))

pub returns-clause-retired : goal.returns-clause-retired
returns-clause-retired g c =
    rw (← c.self.view_is)
    (ap is_some c.free_at-state.ensures.state
    ∙ state_freed g.H.Handler.marks g.C.Named.limits c.self.inside.keeper.past c.self.inside.counts
    (names_of c.self.inside.names) c.self.inside.strands.items c.self.inside.jobs c.args.name
    (rw c.learn.ensures.same at c.learn.ensures.legal) (rw (← c.self.view_is) at c.requires.alive) c.self.invariant.1)
