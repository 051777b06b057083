use Rattle.std.proofs.Common.{ap, refl, ◌∙◌}
use Rattle.std.specs.Option.{is_some}
use Rattle.std.specs.Prelude.{◌∷◌, None}
use Rattle.io_rules.specs.declared.control.Control.TheVariants as control
use Rattle.io_rules.specs.declared.event.Event.TheVariants as event
use Rattle.io_rules.specs.declared.name.Kind.TheVariants as kind
use Rattle.io_rules.specs.Legal.{state_of}
use Rattle.io_names.specs.Tables.{names_of}
use Rattle.io_scheduler.proofs.FreedLemmas.{may_free, shows_freed, state_freed}
use Rattle.io_scheduler.proofs.SectionLemmas.{notes_one}
use Rattle.io_scheduler.proofs.TallyLemmas.{tally_changes}
use Rattle.io_scheduler.proofs.StayedLemmas.{stays_quiet, waits_stay}
use Rattle.io_scheduler.proofs.StreamedLemmas.{streams_stay}
use Rattle.io_scheduler.proofs.scheduler.Scheduler.free_alive.Goals as goal

pub note_named-section-requires : goal.note_named-section-requires
note_named-section-requires g c = record {
  table = c.requires.table;
  outside = record { nobody = refl; no_begin = λ begins. begins };
  may = rw c.learn.ensures.same
      (record { going = c.self.invariant.1.going; caller = tt; allowed = rw (← c.self.view_is) at c.requires.alive });
  none = rw c.learn.ensures.same c.self.invariant.0;
}

pub free_at-state-requires : goal.free_at-state-requires
free_at-state-requires g c =
    may_free g.H.Handler.marks g.C.Named.limits c.self.inside.keeper.past c.self.inside.counts
    (names_of c.self.inside.names) c.self.inside.strands.items c.self.inside.jobs c.args.name
    (rw c.learn.ensures.same at c.learn.ensures.legal) (rw (← c.self.view_is) at c.requires.alive) c.self.invariant.1

pub invariant_of-self : goal.invariant_of-self
invariant_of-self g c = (
  c.note_named-section.ensures.none,
  rw (c.free_at-state.ensures.names, c.free_at-state.ensures.strands, c.note_named-section.ensures.past, c.learn.ensures.same)
      (shows_freed g.H.Handler.marks g.C.Named.limits c.self.inside.keeper.past c.self.inside.counts
      (names_of c.self.inside.names) c.self.inside.strands.items c.self.inside.jobs c.args.name
      (rw c.learn.ensures.same at c.learn.ensures.legal) (rw (← c.self.view_is) at c.requires.alive) c.self.invariant.1),
  rw (c.note_named-section.ensures.past, c.learn.ensures.same)
      (tally_changes c.self.inside.tally (state_of g.C.Named.limits c.self.inside.keeper.past) None
      (control.Free kind.Strand c.args.name) c.self.invariant.2 refl),
  rw (c.note_named-section.ensures.past, c.learn.ensures.same)
      (waits_stay g.H.Handler.marks g.C.Named.limits c.self.inside.timers (state_of g.C.Named.limits c.self.inside.keeper.past) _ c.self.invariant.3
      (stays_quiet (state_of g.C.Named.limits c.self.inside.keeper.past) _ refl refl refl refl refl)),
  rw (c.note_named-section.ensures.past, c.learn.ensures.same)
      (streams_stay g.H.Handler.marks g.C.Named.limits c.self.inside.streams (state_of g.C.Named.limits c.self.inside.keeper.past) _ c.self.invariant.4
      (stays_quiet (state_of g.C.Named.limits c.self.inside.keeper.past) _ refl refl refl refl refl) refl),
)

pub returns-clause-freed : goal.returns-clause-freed
returns-clause-freed g c =
    rw (← c.self.view_is)
    (record {
      may = rw c.learn.ensures.same at c.note_named-section.ensures.may;
      is = ap (state_of g.C.Named.limits)
          (c.note_named-section.ensures.past
          ∙ ap (λ k. event.Changed None (control.Free kind.Strand c.args.name) ∷ k.past) c.learn.ensures.same);
    })

pub returns-clause-retired : goal.returns-clause-retired
returns-clause-retired g c =
    rw (← c.self.view_is)
    (ap is_some c.free_at-state.ensures.state
    ∙ state_freed g.H.Handler.marks g.C.Named.limits c.self.inside.keeper.past c.self.inside.counts
    (names_of c.self.inside.names) c.self.inside.strands.items c.self.inside.jobs c.args.name
    (rw c.learn.ensures.same at c.learn.ensures.legal) (rw (← c.self.view_is) at c.requires.alive) c.self.invariant.1)

pub returns-clause-noted : goal.returns-clause-noted
returns-clause-noted g c =
    rw (← c.self.view_is, c.note_named-section.ensures.past, c.learn.ensures.same)
    (notes_one g.C.Named.limits (event.Changed None (control.Free kind.Strand c.args.name)) _ _ c.self.inside.keeper.past
    (rw c.learn.ensures.same at c.note_named-section.ensures.before)
    (rw c.learn.ensures.same at c.note_named-section.ensures.after))
