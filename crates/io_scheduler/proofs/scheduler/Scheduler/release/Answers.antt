use Rattle.std.proofs.Common.{ap, refl}
use Rattle.std.specs.Prelude.{None}
use Rattle.io_rules.specs.declared.control.Control.TheVariants as control
use Rattle.io_rules.specs.declared.event.Event.TheVariants as event
use Rattle.io_rules.specs.Legal.{state_of}
use Rattle.io_names.specs.Tables.{names_of}
use Rattle.io_scheduler.proofs.CountedLemmas.{shows_released}
use Rattle.io_scheduler.proofs.SectionLemmas.{notes_one}
use Rattle.io_scheduler.proofs.TallyLemmas.{tally_changes}
use Rattle.io_scheduler.proofs.StayedLemmas.{stays_quiet, waits_stay}
use Rattle.io_scheduler.proofs.StreamedLemmas.{streams_stay}
use Rattle.io_scheduler.proofs.scheduler.Scheduler.release.Goals as goal

pub note_section-section-requires : goal.note_section-section-requires
note_section-section-requires g c = record {
  table = c.requires.table;
  outside = record { nobody = refl; no_begin = λ begins. begins };
  may = record { going = c.self.invariant.1.going; caller = tt; allowed = rw (← c.self.view_is) at c.requires.out };
  none = c.self.invariant.0;
}

pub invariant_of-self : goal.invariant_of-self
invariant_of-self g c = (
  c.note_section-section.ensures.none,
  rw (c.saturating_sub-self-inside.ensures, c.note_section-section.ensures.past)
      (shows_released g.H.Handler.marks g.C.Named.limits c.self.inside.counts (names_of c.self.inside.names)
      c.self.inside.strands.items c.self.inside.jobs (state_of g.C.Named.limits c.self.inside.keeper.past)
      c.self.invariant.1),
  rw c.note_section-section.ensures.past
      (tally_changes c.self.inside.tally (state_of g.C.Named.limits c.self.inside.keeper.past) None control.Release
      c.self.invariant.2 refl),
  rw c.note_section-section.ensures.past
      (waits_stay g.H.Handler.marks g.C.Named.limits c.self.inside.timers (state_of g.C.Named.limits c.self.inside.keeper.past) _ c.self.invariant.3
      (stays_quiet (state_of g.C.Named.limits c.self.inside.keeper.past) _ refl refl refl refl refl)),
  rw c.note_section-section.ensures.past
      (streams_stay g.H.Handler.marks g.C.Named.limits c.self.inside.streams (state_of g.C.Named.limits c.self.inside.keeper.past) _ c.self.invariant.4
      (stays_quiet (state_of g.C.Named.limits c.self.inside.keeper.past) _ refl refl refl refl refl) refl),
)

pub returns-clause-step : goal.returns-clause-step
returns-clause-step g c =
    rw (← c.self.view_is)
    (record { may = c.note_section-section.ensures.may; is = ap (state_of g.C.Named.limits) c.note_section-section.ensures.past })

pub returns-clause-noted : goal.returns-clause-noted
returns-clause-noted g c =
    rw (← c.self.view_is, c.note_section-section.ensures.past)
    (notes_one g.C.Named.limits (event.Changed None control.Release) _ _ c.self.inside.keeper.past c.note_section-section.ensures.before
    c.note_section-section.ensures.after)
