use Rattle.std.proofs.Common.{refl}
use Rattle.std.specs.Prelude.{Some}
use Rattle.io_rules.specs.declared.control.Control.TheVariants as control
use Rattle.io_rules.specs.declared.name.Kind.TheVariants as kind
use Rattle.io_rules.specs.Legal.{state_of}
use Rattle.io_names.specs.Tables.{names_of}
use Rattle.io_scheduler.proofs.StreamedLemmas.{streams_stay}
use Rattle.io_scheduler.proofs.TallyLemmas.{tally_changes}
use Rattle.io_scheduler.proofs.TimerMadeLemmas.{shows_timer, stays_timer, waits_timer}
use Rattle.io_scheduler.proofs.TimingLemmas.{is_changed}
use Rattle.io_scheduler.proofs.scheduler.Scheduler.make_timer_by.Goals as goal

pub begin_make-left-requires : goal.begin_make-left-requires
begin_make-left-requires g c = record {
  table = c.requires.table;
  none = c.self.invariant.0;
  going = c.self.invariant.1.going;
  kept = c.requires.kept;
}

pub invariant_of-self : goal.invariant_of-self
invariant_of-self g c =
    let s = state_of g.C.Named.limits c.self.inside.keeper.past in (
      c.begin_make-left.ensures.none,
      rw (c.open.ensures, c.begin_make-left.ensures.come.is)
          (shows_timer g.H.Handler.marks g.C.Named.limits c.self.inside.counts (names_of c.self.inside.names)
          c.self.inside.strands.items c.self.inside.jobs s (Some c.args.running.op) c.args.name c.self.invariant.1),
      rw c.begin_make-left.ensures.come.is
          (tally_changes c.self.inside.tally s (Some c.args.running.op) (control.Make kind.Timer c.args.name)
          c.self.invariant.2 refl),
      rw c.begin_make-left.ensures.come.is
          (waits_timer g.H.Handler.marks g.C.Named.limits c.self.inside.timers s (Some c.args.running.op) c.args.name
          c.self.invariant.3),
      rw c.begin_make-left.ensures.come.is
          (streams_stay g.H.Handler.marks g.C.Named.limits c.self.inside.streams s _ c.self.invariant.4
          (stays_timer s (Some c.args.running.op) c.args.name) refl),
    )

pub returns-clause-changed : goal.returns-clause-changed
returns-clause-changed g c =
    rw (← c.self.view_is)
    (is_changed g.C.Named.limits (Some c.args.running.op) (control.Make kind.Timer c.args.name) c.self.inside.keeper.past _
    c.begin_make-left.ensures.come)
