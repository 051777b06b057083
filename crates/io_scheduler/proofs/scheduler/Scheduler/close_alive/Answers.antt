use Rattle.std.proofs.Common.{ap, refl, subst, sym, ◌∙◌}
use Rattle.std.specs.Prelude.{◌≡◌, ◌∷◌, None, true}
use Rattle.io_rules.specs.declared.control.Control.TheVariants as control
use Rattle.io_rules.specs.declared.event.Event.TheVariants as event
use Rattle.io_rules.specs.Cancelling.{is_out_for}
use Rattle.io_rules.specs.Legal.{state_of}
use Rattle.io_rules.specs.Names.{Names, is_alive}
use Rattle.io_rules.specs.Serving.{first_of}
use Rattle.io_rules.specs.State.{stream_at}
use Rattle.io_names.specs.Tables.{names_of}
use Rattle.io_scheduler.specs.Closing.{closings}
use Rattle.io_scheduler.specs.Opened.{socket_kind}
use Rattle.io_scheduler.proofs.ComeLemmas.{notes_all}
use Rattle.io_scheduler.proofs.GoneLemmas.{alive_used, closed_come, closings_come, first_closing, socket_within}
use Rattle.io_scheduler.proofs.scheduler.Scheduler.close_alive.Goals as goal

pub is_listener-listener-requires : goal.is_listener-listener-requires
is_listener-listener-requires g c =
    socket_within g.H.Handler.marks g.C.Named.limits c.self.inside.streams (state_of g.C.Named.limits c.self.inside.keeper.past)
    c.args.name c.self.invariant.4 (rw (← c.self.view_is) at c.requires.alive)

pub mark_tried-requires : goal.mark_tried-requires
mark_tried-requires g c = record {
  within =
      socket_within g.H.Handler.marks g.C.Named.limits c.self.inside.streams (state_of g.C.Named.limits c.self.inside.keeper.past)
      c.args.name c.self.invariant.4 (rw (← c.self.view_is) at c.requires.alive);
  busy = λ side.
      subst (λ xs. is_out_for side (stream_at xs c.args.name).out ≡ true → first_of side (stream_at xs c.args.name) ≡ None → ⊥)
      (sym c.self.invariant.4.streams_are) (c.self.invariant.4.busy c.args.name side);
}

pub note_closed-before-requires : goal.note_closed-before-requires
note_closed-before-requires g c = record {
  table = c.requires.table;
  event = refl;
  alive = rw c.learn.ensures.same (rw (← c.self.view_is) at c.requires.alive);
  kind = rw c.learn.ensures.same
      (ap (λ xs. (stream_at xs c.args.name).listener) (sym c.self.invariant.4.streams_are) ∙ sym c.is_listener-listener.ensures);
  going = rw c.learn.ensures.same c.self.invariant.1.going;
  none = rw c.learn.ensures.same c.self.invariant.0;
}

pub close_freed-requires : goal.close_freed-requires
close_freed-requires g c =
    let is = c.note_closed-before.ensures.come.is
    ∙ ap (λ k. event.Changed None (control.Free (socket_kind c.is_listener-listener.result) c.args.name) ∷ k.past) c.learn.ensures.same in
    record {
      table = c.requires.table;
      none = c.note_closed-before.ensures.none;
      closing = rw is
          (first_closing g.H.Handler.marks g.C.Named.limits c.self.inside.keeper.past c.self.inside.counts
          (names_of c.self.inside.names) c.self.inside.strands.items c.self.inside.jobs c.self.inside.timers
          c.self.inside.streams c.self.inside.tally c.args.name None c.is_listener-listener.result
          (rw c.learn.ensures.same at c.learn.ensures.legal) (rw (← c.self.view_is) at c.requires.alive)
          c.self.invariant.1 c.self.invariant.2 c.self.invariant.3 c.self.invariant.4 c.holds.ensures
          (ap (λ xs. (stream_at xs c.args.name).listener) (sym c.self.invariant.4.streams_are) ∙ sym c.is_listener-listener.ensures)
          _ c.mark_tried.ensures).0;
      used =
          alive_used (names_of c.self.inside.names).streams c.args.name
          (subst (λ (ns : Names). is_alive ns.streams c.args.name ≡ true) (sym c.self.invariant.1.names_are)
          (rw (← c.self.view_is) at c.requires.alive));
    }

pub invariant_of-self : goal.invariant_of-self
invariant_of-self g c = (
  rw c.tell-after.ensures.same c.close_freed.ensures.none,
  rw c.tell-after.ensures.same c.close_freed.ensures.shows,
  rw c.tell-after.ensures.same c.close_freed.ensures.tally,
  rw c.tell-after.ensures.same c.close_freed.ensures.waits,
  rw c.tell-after.ensures.same c.close_freed.ensures.streams,
)

pub returns : goal.returns
returns g c =
    let s = state_of g.C.Named.limits c.self.inside.keeper.past in
    let listener = ap (λ xs. (stream_at xs c.args.name).listener) (sym c.self.invariant.4.streams_are)
    ∙ sym c.is_listener-listener.ensures in
    let come = closed_come g.H.Handler.marks g.C.Named.limits c.self.inside.keeper.past c.self.inside.counts
    (names_of c.self.inside.names) c.self.inside.strands.items c.self.inside.jobs c.self.inside.timers
    c.self.inside.streams c.self.inside.tally c.args.name None c.is_listener-listener.result
    (rw c.learn.ensures.same at c.learn.ensures.legal) (rw (← c.self.view_is) at c.requires.alive)
    c.self.invariant.1 c.self.invariant.2 c.self.invariant.3 c.self.invariant.4 c.holds.ensures listener
    _ c.mark_tried.ensures _ _ (rw c.learn.ensures.same at c.note_closed-before.ensures.come) c.close_freed.ensures.aborted in
    rw (← c.self.view_is, c.tell-after.ensures.same)
    (notes_all g.C.Named.limits (closings c.args.name s) _ _ c.self.inside.keeper.past _
    (closings_come g.C.Named.limits _ _ c.args.name s c.is_listener-listener.result listener come)
    (rw c.learn.ensures.same at c.note_closed-before.ensures.before) c.tell-after.ensures.told)
