use Rattle.std.proofs.Common.{ap, refl, sym, ◌∙◌}
use Rattle.std.specs.Prelude.{false}
use Rattle.io_rules.specs.declared.event.Event.TheVariants as event
use Rattle.io_rules.specs.Legal.{state_of}
use Rattle.io_names.specs.Tables.{names_of}
use Rattle.io_scheduler.proofs.CountedLemmas.{shows_restarted}
use Rattle.io_scheduler.proofs.SectionLemmas.{notes_one}
use Rattle.io_scheduler.proofs.TallyLemmas.{at_rest, rest_shown, tally_stays}
use Rattle.io_scheduler.proofs.StayedLemmas.{stays_stopped, waits_stay}
use Rattle.io_scheduler.proofs.StreamedLemmas.{streams_stay}
use Rattle.io_scheduler.proofs.scheduler.Scheduler.restart.Goals as goal

pub note_section-section-requires : goal.note_section-section-requires
note_section-section-requires g c = record {
  table = c.requires;
  outside = record { nobody = refl; no_begin = λ begins. begins };
  may = at_rest c.self.inside.tally (state_of g.C.Named.limits c.self.inside.keeper.past) c.self.invariant.2
      c.self.invariant.1.going (sym c.rests.ensures ∙ c.if-not-rests.false);
  none = c.self.invariant.0;
}

pub invariant_of-self : goal.invariant_of-self
invariant_of-self g c = (
  c.note_section-section.ensures.none,
  rw c.note_section-section.ensures.past
      (shows_restarted g.H.Handler.marks g.C.Named.limits c.self.inside.counts (names_of c.self.inside.names)
      c.self.inside.strands.items c.self.inside.jobs (state_of g.C.Named.limits c.self.inside.keeper.past)
      c.self.invariant.1),
  rw c.note_section-section.ensures.past
      (tally_stays c.self.inside.tally (state_of g.C.Named.limits c.self.inside.keeper.past) false c.self.invariant.2),
  rw c.note_section-section.ensures.past
      (waits_stay g.H.Handler.marks g.C.Named.limits c.self.inside.timers (state_of g.C.Named.limits c.self.inside.keeper.past) _ c.self.invariant.3
      (stays_stopped (state_of g.C.Named.limits c.self.inside.keeper.past) false)),
  rw c.note_section-section.ensures.past
      (streams_stay g.H.Handler.marks g.C.Named.limits c.self.inside.streams (state_of g.C.Named.limits c.self.inside.keeper.past) _ c.self.invariant.4
      (stays_stopped (state_of g.C.Named.limits c.self.inside.keeper.past) false) refl),
)

pub returns-then-not-rests-clause-rest : goal.returns-then-not-rests-clause-rest
returns-then-not-rests-clause-rest g c =
    rw (← c.self.view_is)
    (sym c.if-not-rests.true ∙ c.rests.ensures
    ∙ rest_shown c.self.inside.tally (state_of g.C.Named.limits c.self.inside.keeper.past) c.self.invariant.2)

pub returns-clause-rest : goal.returns-clause-rest
returns-clause-rest g c =
    rw (← c.self.view_is)
    (sym c.if-not-rests.false ∙ c.rests.ensures
    ∙ rest_shown c.self.inside.tally (state_of g.C.Named.limits c.self.inside.keeper.past) c.self.invariant.2)

pub returns-clause-step : goal.returns-clause-step
returns-clause-step g c =
    rw (← c.self.view_is)
    (record { may = c.note_section-section.ensures.may; is = ap (state_of g.C.Named.limits) c.note_section-section.ensures.past })

pub returns-clause-noted : goal.returns-clause-noted
returns-clause-noted g c =
    rw (← c.self.view_is, c.note_section-section.ensures.past)
    (notes_one g.C.Named.limits event.Restarted _ _ c.self.inside.keeper.past c.note_section-section.ensures.before
    c.note_section-section.ensures.after)
