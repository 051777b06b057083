use Rattle.std.proofs.Common.{ap, refl, subst}
use Rattle.std.specs.Prelude.{◌≡◌, None, true}
use Rattle.io_rules.specs.declared.control.Control.TheVariants as control
use Rattle.io_rules.specs.declared.event.Event.TheVariants as event
use Rattle.io_rules.specs.declared.name.Kind.TheVariants as kind
use Rattle.io_rules.specs.Legal.{state_of}
use Rattle.io_rules.specs.Names.{Names, is_free}
use Rattle.io_names.specs.Tables.{names_of}
use Rattle.io_scheduler.proofs.SectionLemmas.{notes_one}
use Rattle.io_scheduler.proofs.StreamedLemmas.{streams_stay}
use Rattle.io_scheduler.proofs.TallyLemmas.{tally_changes}
use Rattle.io_scheduler.proofs.TimerMadeLemmas.{shows_timer, stays_timer, waits_timer}
use Rattle.io_scheduler.proofs.scheduler.Scheduler.make_timer.Goals as goal

pub note_named-section-requires : goal.note_named-section-requires
note_named-section-requires g c = record {
  table = c.requires;
  outside = record { nobody = refl; no_begin = λ begins. begins };
  may = record {
    going = c.self.invariant.1.going;
    caller = tt;
    allowed = subst (λ (ns : Names). is_free ns.timers c.in-Some.name ≡ true) c.self.invariant.1.names_are
        c.in-Some.ensures.made;
  };
  none = c.self.invariant.0;
}

pub invariant_of-self-in-Some : goal.invariant_of-self-in-Some
invariant_of-self-in-Some g c = (
  c.note_named-section.ensures.none,
  rw (c.in-Some.ensures.places, c.note_named-section.ensures.past)
      (shows_timer g.H.Handler.marks g.C.Named.limits c.self.inside.counts (names_of c.self.inside.names)
      c.self.inside.strands.items c.self.inside.jobs (state_of g.C.Named.limits c.self.inside.keeper.past) None c.in-Some.name
      c.self.invariant.1),
  rw c.note_named-section.ensures.past
      (tally_changes c.self.inside.tally (state_of g.C.Named.limits c.self.inside.keeper.past) None
      (control.Make kind.Timer c.in-Some.name) c.self.invariant.2 refl),
  rw c.note_named-section.ensures.past
      (waits_timer g.H.Handler.marks g.C.Named.limits c.self.inside.timers
      (state_of g.C.Named.limits c.self.inside.keeper.past) None c.in-Some.name c.self.invariant.3),
  rw c.note_named-section.ensures.past
      (streams_stay g.H.Handler.marks g.C.Named.limits c.self.inside.streams (state_of g.C.Named.limits c.self.inside.keeper.past) _ c.self.invariant.4
      (stays_timer (state_of g.C.Named.limits c.self.inside.keeper.past) None c.in-Some.name) refl),
)

pub returns-in-Some-clause-made : goal.returns-in-Some-clause-made
returns-in-Some-clause-made g c =
    rw (← c.self.view_is)
    (record {
      may = c.note_named-section.ensures.may;
      is = ap (state_of g.C.Named.limits) c.note_named-section.ensures.past;
    })

pub returns-in-Some-clause-noted : goal.returns-in-Some-clause-noted
returns-in-Some-clause-noted g c =
    rw (← c.self.view_is, c.note_named-section.ensures.past)
    (notes_one g.C.Named.limits (event.Changed None (control.Make kind.Timer c.in-Some.name)) _ _ c.self.inside.keeper.past
    c.note_named-section.ensures.before c.note_named-section.ensures.after)
