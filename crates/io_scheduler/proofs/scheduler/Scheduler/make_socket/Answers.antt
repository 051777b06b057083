use Rattle.std.proofs.Common.{ap, refl, subst, ◌∙◌}
use Rattle.std.specs.Prelude.{◌≡◌, ◌∷◌, None, true}
use Rattle.io_rules.specs.declared.control.Control.TheVariants as control
use Rattle.io_rules.specs.declared.event.Event.TheVariants as event
use Rattle.io_rules.specs.Legal.{state_of}
use Rattle.io_rules.specs.Names.{Names, is_free}
use Rattle.io_names.specs.Tables.{names_of}
use Rattle.io_scheduler.specs.Opened.{socket_kind}
use Rattle.io_scheduler.proofs.OpenedLemmas.{idle_shown, may_open_at, shows_opened, streams_made, tally_opened, waits_opened}
use Rattle.io_scheduler.proofs.SectionLemmas.{notes_one}
use Rattle.io_scheduler.proofs.scheduler.Scheduler.make_socket.Goals as goal

pub note_made-section-requires : goal.note_made-section-requires
note_made-section-requires g c = record {
  table = c.requires;
  event = refl;
  going = rw c.learn.ensures.same c.self.invariant.1.going;
  free = rw c.learn.ensures.same
      (subst (λ (ns : Names). is_free ns.streams c.in-Some.name ≡ true) c.self.invariant.1.names_are c.in-Some.ensures.made);
  none = rw c.learn.ensures.same c.self.invariant.0;
}

pub open-requires : goal.open-requires
open-requires g c =
    let it = idle_shown g.H.Handler.marks g.C.Named.limits c.self.inside.keeper.past c.self.inside.streams c.in-Some.name
    (rw c.learn.ensures.same at c.learn.ensures.legal)
    (subst (λ (ns : Names). is_free ns.streams c.in-Some.name ≡ true) c.self.invariant.1.names_are c.in-Some.ensures.made)
    c.self.invariant.4 in
    record { within = it.within; idle = it.idle }

pub invariant_of-self-in-Some : goal.invariant_of-self-in-Some
invariant_of-self-in-Some g c =
    let limits = g.C.Named.limits in
    let past = c.self.inside.keeper.past in
    let s = state_of limits past in
    let shows = c.self.invariant.1 in
    let may = may_open_at limits past (rw c.learn.ensures.same at c.learn.ensures.legal) c.in-Some.name
    (subst (λ (ns : Names). is_free ns.streams c.in-Some.name ≡ true) shows.names_are c.in-Some.ensures.made) in
    let many = c.self.invariant.4.places in
    let is = c.note_made-section.ensures.past
    ∙ ap (λ k. event.Changed None (control.Make (socket_kind c.args.listener) c.in-Some.name) ∷ k.past) c.learn.ensures.same in (
      c.note_made-section.ensures.none,
      rw (c.in-Some.ensures.places, is)
          (shows_opened limits s c.args.listener c.in-Some.name shows.settled may g.H.Handler.marks c.self.inside.counts
          (names_of c.self.inside.names) c.self.inside.strands.items c.self.inside.jobs shows),
      rw is
          (tally_opened limits s c.args.listener c.in-Some.name shows.settled may c.self.inside.tally many c.self.invariant.2),
      rw is
          (waits_opened limits s c.args.listener c.in-Some.name shows.settled may g.H.Handler.marks c.self.inside.timers many
          c.self.invariant.3),
      rw (c.open.ensures, is)
          (streams_made limits s c.args.listener c.in-Some.name shows.settled may g.H.Handler.marks c.self.inside.streams
          c.self.invariant.4),
    )

pub returns-in-Some-clause-made : goal.returns-in-Some-clause-made
returns-in-Some-clause-made g c =
    rw (← c.self.view_is)
    (record {
      may = rw c.learn.ensures.same at c.note_made-section.ensures.may;
      is = ap (state_of g.C.Named.limits)
          (c.note_made-section.ensures.past
          ∙ ap (λ k. event.Changed None (control.Make (socket_kind c.args.listener) c.in-Some.name) ∷ k.past) c.learn.ensures.same);
    })

pub returns-in-Some-clause-noted : goal.returns-in-Some-clause-noted
returns-in-Some-clause-noted g c =
    let is = c.note_made-section.ensures.past
    ∙ ap (λ k. event.Changed None (control.Make (socket_kind c.args.listener) c.in-Some.name) ∷ k.past) c.learn.ensures.same in
    rw (← c.self.view_is, is)
    (notes_one g.C.Named.limits (event.Changed None (control.Make (socket_kind c.args.listener) c.in-Some.name)) _ _
    c.self.inside.keeper.past (rw c.learn.ensures.same at c.note_made-section.ensures.before)
    (c.note_made-section.ensures.after
    ∙ ap (λ k. event.Changed None (control.Make (socket_kind c.args.listener) c.in-Some.name) ∷ k.past) c.learn.ensures.same))
