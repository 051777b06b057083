use Rattle.std.proofs.Common.{ap, refl, ◌∙◌}
use Rattle.std.specs.Prelude.{◌∷◌, None}
use Rattle.io_rules.specs.declared.control.Control.TheVariants as control
use Rattle.io_rules.specs.declared.event.Event.TheVariants as event
use Rattle.io_rules.specs.declared.name.Kind.TheVariants as kind
use Rattle.io_rules.specs.Legal.{state_of}
use Rattle.io_names.specs.Tables.{names_of}
use Rattle.io_scheduler.proofs.MadeLemmas.{free_shown, may_open, shows_made}
use Rattle.io_scheduler.proofs.SectionLemmas.{notes_one}
use Rattle.io_scheduler.proofs.TallyLemmas.{tally_changes}
use Rattle.io_scheduler.proofs.StayedLemmas.{stays_quiet, waits_stay}
use Rattle.io_scheduler.proofs.StreamedLemmas.{streams_stay}
use Rattle.io_scheduler.proofs.scheduler.Scheduler.make_strand.Goals as goal

pub note_named-section-requires : goal.note_named-section-requires
note_named-section-requires g c = record {
  table = c.requires;
  outside = record { nobody = refl; no_begin = λ begins. begins };
  may = rw c.learn.ensures.same
      (record {
        going = c.self.invariant.1.going;
        caller = tt;
        allowed = free_shown g.H.Handler.marks g.C.Named.limits c.self.inside.counts (names_of c.self.inside.names)
            c.self.inside.strands.items c.self.inside.jobs (state_of g.C.Named.limits c.self.inside.keeper.past)
            c.in-Some.name c.in-Some.ensures.made c.self.invariant.1;
      });
  none = rw c.learn.ensures.same c.self.invariant.0;
}

pub open_at-requires : goal.open_at-requires
open_at-requires g c =
    let shows = c.self.invariant.1 in
    may_open c.self.inside.strands.items (state_of g.C.Named.limits c.self.inside.keeper.past).names.strands
    c.in-Some.name shows.there
    (free_shown g.H.Handler.marks g.C.Named.limits c.self.inside.counts (names_of c.self.inside.names)
    c.self.inside.strands.items c.self.inside.jobs (state_of g.C.Named.limits c.self.inside.keeper.past) c.in-Some.name
    c.in-Some.ensures.made shows)

pub invariant_of-self-in-Some : goal.invariant_of-self-in-Some
invariant_of-self-in-Some g c = (
  c.note_named-section.ensures.none,
  rw (c.open_at.ensures, c.in-Some.ensures.places, c.note_named-section.ensures.past, c.learn.ensures.same)
      (shows_made g.H.Handler.marks g.C.Named.limits c.self.inside.keeper.past c.self.inside.counts
      (names_of c.self.inside.names) c.self.inside.strands.items c.self.inside.jobs c.in-Some.name c.args.state
      (rw c.learn.ensures.same at c.learn.ensures.legal) c.in-Some.ensures.made c.self.invariant.1),
  rw (c.note_named-section.ensures.past, c.learn.ensures.same)
      (tally_changes c.self.inside.tally (state_of g.C.Named.limits c.self.inside.keeper.past) None
      (control.Make kind.Strand c.in-Some.name) c.self.invariant.2 refl),
  rw (c.note_named-section.ensures.past, c.learn.ensures.same)
      (waits_stay g.H.Handler.marks g.C.Named.limits c.self.inside.timers (state_of g.C.Named.limits c.self.inside.keeper.past) _ c.self.invariant.3
      (stays_quiet (state_of g.C.Named.limits c.self.inside.keeper.past) _ refl refl refl refl refl)),
  rw (c.note_named-section.ensures.past, c.learn.ensures.same)
      (streams_stay g.H.Handler.marks g.C.Named.limits c.self.inside.streams (state_of g.C.Named.limits c.self.inside.keeper.past) _ c.self.invariant.4
      (stays_quiet (state_of g.C.Named.limits c.self.inside.keeper.past) _ refl refl refl refl refl) refl),
)

pub returns-in-Some-clause-made : goal.returns-in-Some-clause-made
returns-in-Some-clause-made g c =
    rw (← c.self.view_is)
    (record {
      may = rw c.learn.ensures.same at c.note_named-section.ensures.may;
      is = ap (state_of g.C.Named.limits)
          (c.note_named-section.ensures.past
          ∙ ap (λ k. event.Changed None (control.Make kind.Strand c.in-Some.name) ∷ k.past) c.learn.ensures.same);
    })

pub returns-in-Some-clause-noted : goal.returns-in-Some-clause-noted
returns-in-Some-clause-noted g c =
    rw (← c.self.view_is, c.note_named-section.ensures.past, c.learn.ensures.same)
    (notes_one g.C.Named.limits (event.Changed None (control.Make kind.Strand c.in-Some.name)) _ _ c.self.inside.keeper.past
    (rw c.learn.ensures.same at c.note_named-section.ensures.before)
    (rw c.learn.ensures.same at c.note_named-section.ensures.after))
