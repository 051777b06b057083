use Rattle.std.proofs.Common.{ap, refl}
use Rattle.std.specs.Prelude.{true}
use Rattle.io_rules.specs.Legal.{state_of}
use Rattle.io_names.specs.Tables.{names_of}
use Rattle.io_scheduler.proofs.CountedLemmas.{shows_returned}
use Rattle.io_scheduler.proofs.TallyLemmas.{tally_stays}
use Rattle.io_scheduler.proofs.StayedLemmas.{stays_stopped, waits_stay}
use Rattle.io_scheduler.proofs.StreamedLemmas.{streams_stay}
use Rattle.io_scheduler.proofs.scheduler.Scheduler.returned.Goals as goal

pub note_outside-requires : goal.note_outside-requires
note_outside-requires g c = record {
  table = c.requires.table;
  outside = record { nobody = refl; no_begin = λ begins. begins };
  may = record { going = c.self.invariant.1.going; over = rw (← c.self.view_is) at c.requires.over };
  none = c.self.invariant.0;
}

pub invariant_of-self : goal.invariant_of-self
invariant_of-self g c = (
  c.note_outside.ensures.none,
  rw c.note_outside.ensures.past
      (shows_returned g.H.Handler.marks g.C.Named.limits c.self.inside.counts (names_of c.self.inside.names)
      c.self.inside.strands.items c.self.inside.jobs (state_of g.C.Named.limits c.self.inside.keeper.past)
      c.self.invariant.1),
  rw c.note_outside.ensures.past
      (tally_stays c.self.inside.tally (state_of g.C.Named.limits c.self.inside.keeper.past) true c.self.invariant.2),
  rw c.note_outside.ensures.past
      (waits_stay g.H.Handler.marks g.C.Named.limits c.self.inside.timers (state_of g.C.Named.limits c.self.inside.keeper.past) _ c.self.invariant.3
      (stays_stopped (state_of g.C.Named.limits c.self.inside.keeper.past) true)),
  rw c.note_outside.ensures.past
      (streams_stay g.H.Handler.marks g.C.Named.limits c.self.inside.streams (state_of g.C.Named.limits c.self.inside.keeper.past) _ c.self.invariant.4
      (stays_stopped (state_of g.C.Named.limits c.self.inside.keeper.past) true) refl),
)

pub returns : goal.returns
returns g c =
    rw (← c.self.view_is)
    (record { may = c.note_outside.ensures.may; is = ap (state_of g.C.Named.limits) c.note_outside.ensures.past })
