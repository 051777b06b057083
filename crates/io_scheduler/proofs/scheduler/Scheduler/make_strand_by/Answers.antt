use Rattle.std.proofs.Common.{refl}
use Rattle.std.specs.Prelude.{Some}
use Rattle.io_rules.specs.declared.control.Control.TheVariants as control
use Rattle.io_rules.specs.declared.name.Kind.TheVariants as kind
use Rattle.io_rules.specs.Legal.{state_of}
use Rattle.io_names.specs.Tables.{names_of}
use Rattle.io_scheduler.proofs.KeptStrandLemmas.{kept_strand}
use Rattle.io_scheduler.proofs.StayedLemmas.{waits_stay}
use Rattle.io_scheduler.proofs.StrandMadeLemmas.{may_open_kept, shows_made_by, stays_strand}
use Rattle.io_scheduler.proofs.StreamedLemmas.{streams_stay}
use Rattle.io_scheduler.proofs.TallyLemmas.{tally_changes}
use Rattle.io_scheduler.proofs.TimingLemmas.{is_changed}
use Rattle.io_scheduler.proofs.scheduler.Scheduler.make_strand_by.Goals as goal

pub begin_make-left-requires : goal.begin_make-left-requires
begin_make-left-requires g c = record {
  table = c.requires.table;
  none = rw c.learn.ensures.same c.self.invariant.0;
  going = rw c.learn.ensures.same c.self.invariant.1.going;
  kept = c.requires.kept;
}

pub open_at-requires : goal.open_at-requires
open_at-requires g c =
    let s = state_of g.C.Named.limits c.self.inside.keeper.past in
    may_open_kept c.self.inside.strands.items s.names.strands c.args.name c.self.invariant.1.there
    (kept_strand g.C.Named.limits c.self.inside.keeper.past (rw c.learn.ensures.same at c.learn.ensures.legal)
    c.args.running.op c.args.name (rw c.learn.ensures.same at c.begin_make-left.ensures.come).may.0.allowed)

pub invariant_of-self : goal.invariant_of-self
invariant_of-self g c =
    let s = state_of g.C.Named.limits c.self.inside.keeper.past in (
      c.begin_make-left.ensures.none,
      rw (c.open_at.ensures, c.open.ensures, c.begin_make-left.ensures.come.is, c.learn.ensures.same)
          (shows_made_by g.H.Handler.marks g.C.Named.limits c.self.inside.keeper.past c.self.inside.counts
          (names_of c.self.inside.names) c.self.inside.strands.items c.self.inside.jobs c.args.running.op c.args.name
          c.args.state (rw c.learn.ensures.same at c.learn.ensures.legal)
          (rw c.learn.ensures.same at c.begin_make-left.ensures.come).may.0 c.self.invariant.1),
      rw (c.begin_make-left.ensures.come.is, c.learn.ensures.same)
          (tally_changes c.self.inside.tally s (Some c.args.running.op) (control.Make kind.Strand c.args.name)
          c.self.invariant.2 refl),
      rw (c.begin_make-left.ensures.come.is, c.learn.ensures.same)
          (waits_stay g.H.Handler.marks g.C.Named.limits c.self.inside.timers s _ c.self.invariant.3
          (stays_strand s (Some c.args.running.op) c.args.name)),
      rw (c.begin_make-left.ensures.come.is, c.learn.ensures.same)
          (streams_stay g.H.Handler.marks g.C.Named.limits c.self.inside.streams s _ c.self.invariant.4
          (stays_strand s (Some c.args.running.op) c.args.name) refl),
    )

pub returns-clause-changed : goal.returns-clause-changed
returns-clause-changed g c =
    rw (← c.self.view_is)
    (is_changed g.C.Named.limits (Some c.args.running.op) (control.Make kind.Strand c.args.name) c.self.inside.keeper.past _
    (rw c.learn.ensures.same at c.begin_make-left.ensures.come))
