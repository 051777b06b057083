use Rattle.std.proofs.Common.{refl}
use Rattle.std.specs.Prelude.{Some}
use Rattle.io_rules.specs.declared.control.Control.TheVariants as control
use Rattle.io_rules.specs.Legal.{state_of}
use Rattle.io_names.specs.Tables.{names_of}
use Rattle.io_scheduler.proofs.CountedLemmas.{shows_stopped}
use Rattle.io_scheduler.proofs.TallyLemmas.{tally_changes}
use Rattle.io_scheduler.proofs.StayedLemmas.{stays_quiet, waits_stay}
use Rattle.io_scheduler.proofs.StreamedLemmas.{streams_stay}
use Rattle.io_scheduler.proofs.scheduler.Scheduler.stop_by.Goals as goal

pub invariant_of-self : goal.invariant_of-self
invariant_of-self g c = (
  c.give_out-claim.ensures.none,
  rw (c.give_out-claim.ensures.past, c.note_stopped_by.ensures.past, c.take_back.ensures.past)
      (shows_stopped g.H.Handler.marks g.C.Named.limits c.self.inside.counts (names_of c.self.inside.names)
      c.self.inside.strands.items c.self.inside.jobs (state_of g.C.Named.limits c.self.inside.keeper.past)
      c.self.invariant.1),
  rw (c.give_out-claim.ensures.past, c.note_stopped_by.ensures.past, c.take_back.ensures.past)
      (tally_changes c.self.inside.tally (state_of g.C.Named.limits c.self.inside.keeper.past) (Some c.running.inside.op)
      control.Stop c.self.invariant.2 refl),
  rw (c.give_out-claim.ensures.past, c.note_stopped_by.ensures.past, c.take_back.ensures.past)
      (waits_stay g.H.Handler.marks g.C.Named.limits c.self.inside.timers (state_of g.C.Named.limits c.self.inside.keeper.past) _ c.self.invariant.3
      (stays_quiet (state_of g.C.Named.limits c.self.inside.keeper.past) _ refl refl refl refl refl)),
  rw (c.give_out-claim.ensures.past, c.note_stopped_by.ensures.past, c.take_back.ensures.past)
      (streams_stay g.H.Handler.marks g.C.Named.limits c.self.inside.streams (state_of g.C.Named.limits c.self.inside.keeper.past) _ c.self.invariant.4
      (stays_quiet (state_of g.C.Named.limits c.self.inside.keeper.past) _ refl refl refl refl refl) refl),
)
