use Rattle.std.proofs.Common.{ap, refl, sym, ◌∙◌}
use Rattle.std.specs.Prelude.{None}
use Rattle.io_rules.specs.Legal.{state_of}
use Rattle.io_names.specs.Tables.{names_of}
use Rattle.io_scheduler.specs.Timing.{names_behind, timers_behind}
use Rattle.io_scheduler.proofs.ComeLemmas.{notes_all}
use Rattle.io_scheduler.proofs.StreamedLemmas.{still_changed, streams_still}
use Rattle.io_scheduler.proofs.TimingLemmas.{change_cancelling, change_come, change_names, change_only, change_timers, change_used, change_within, over_shown, over_tallied, over_waits}
use Rattle.io_scheduler.proofs.scheduler.Scheduler.change_alive.Goals as goal

pub note_change-before-requires : goal.note_change-before-requires
note_change-before-requires g c = record {
  table = c.requires.table;
  event = refl;
  alive = rw c.learn.ensures.same (rw (← c.self.view_is) at c.requires.alive);
  going = rw c.learn.ensures.same c.self.invariant.1.going;
  none = rw c.learn.ensures.same c.self.invariant.0;
}

pub abort_those-requires : goal.abort_those-requires
abort_those-requires g c = record {
  table = c.requires.table;
  none = c.note_change-before.ensures.none;
  within = change_within g.H.Handler.marks g.C.Named.limits c.self.inside.keeper.past c.self.inside.counts (names_of c.self.inside.names)
      c.self.inside.strands.items c.self.inside.jobs c.self.inside.timers c.self.inside.tally None c.args.timer c.args.change
      (rw c.learn.ensures.same at c.learn.ensures.legal) (rw (← c.self.view_is) at c.requires.alive) c.self.invariant.1
      c.self.invariant.3 c.self.invariant.2;
  only = change_only g.H.Handler.marks g.C.Named.limits c.self.inside.keeper.past c.self.inside.counts (names_of c.self.inside.names)
      c.self.inside.strands.items c.self.inside.jobs c.self.inside.timers c.self.inside.tally None c.args.timer c.args.change
      (rw c.learn.ensures.same at c.learn.ensures.legal) (rw (← c.self.view_is) at c.requires.alive) c.self.invariant.1
      c.self.invariant.3 c.self.invariant.2;
  cancelling = rw c.cancels_all.ensures
      (change_cancelling g.H.Handler.marks g.C.Named.limits c.self.inside.keeper.past c.self.inside.counts (names_of c.self.inside.names)
      c.self.inside.strands.items c.self.inside.jobs c.self.inside.timers c.self.inside.tally None c.args.timer c.args.change
      (rw c.learn.ensures.same at c.learn.ensures.legal) (rw (← c.self.view_is) at c.requires.alive) c.self.invariant.1
      c.self.invariant.3 c.self.invariant.2 _ (rw c.learn.ensures.same at c.note_change-before.ensures.come));
}

pub apply-requires : goal.apply-requires
apply-requires g c = record {
  within = rw c.abort_those.ensures.within (change_within g.H.Handler.marks g.C.Named.limits c.self.inside.keeper.past c.self.inside.counts (names_of c.self.inside.names)
      c.self.inside.strands.items c.self.inside.jobs c.self.inside.timers c.self.inside.tally None c.args.timer c.args.change
      (rw c.learn.ensures.same at c.learn.ensures.legal) (rw (← c.self.view_is) at c.requires.alive) c.self.invariant.1
      c.self.invariant.3 c.self.invariant.2);
  only = c.abort_those.ensures.only;
  none = rw (← c.cancels_all.ensures) c.abort_those.ensures.none;
  used = change_used g.H.Handler.marks g.C.Named.limits c.self.inside.keeper.past c.self.inside.counts (names_of c.self.inside.names)
      c.self.inside.strands.items c.self.inside.jobs c.self.inside.timers c.self.inside.tally None c.args.timer c.args.change
      (rw c.learn.ensures.same at c.learn.ensures.legal) (rw (← c.self.view_is) at c.requires.alive) c.self.invariant.1
      c.self.invariant.3 c.self.invariant.2;
}

pub invariant_of-self : goal.invariant_of-self
invariant_of-self g c =
    let one = rw c.learn.ensures.same at c.note_change-before.ensures.come in
    let come = change_come g.H.Handler.marks g.C.Named.limits c.self.inside.keeper.past c.self.inside.counts (names_of c.self.inside.names)
    c.self.inside.strands.items c.self.inside.jobs c.self.inside.timers c.self.inside.tally None c.args.timer c.args.change
    (rw c.learn.ensures.same at c.learn.ensures.legal) (rw (← c.self.view_is) at c.requires.alive) c.self.invariant.1
    c.self.invariant.3 c.self.invariant.2
    _ _ one (rw c.cancels_all.ensures at c.abort_those.ensures.aborted) in
    let over = c.abort_those.ensures.cancelling in
    let names = change_names g.H.Handler.marks g.C.Named.limits c.self.inside.keeper.past c.self.inside.counts (names_of c.self.inside.names)
    c.self.inside.strands.items c.self.inside.jobs c.self.inside.timers c.self.inside.tally None c.args.timer c.args.change
    (rw c.learn.ensures.same at c.learn.ensures.legal) (rw (← c.self.view_is) at c.requires.alive) c.self.invariant.1
    c.self.invariant.3 c.self.invariant.2 _ come
    ∙ ap (names_behind c.args.timer c.args.change) (sym c.self.invariant.1.names_are ∙ over.shows.names_are) in
    let timers = change_timers g.H.Handler.marks g.C.Named.limits c.self.inside.keeper.past c.self.inside.counts (names_of c.self.inside.names)
    c.self.inside.strands.items c.self.inside.jobs c.self.inside.timers c.self.inside.tally None c.args.timer c.args.change
    (rw c.learn.ensures.same at c.learn.ensures.legal) (rw (← c.self.view_is) at c.requires.alive) c.self.invariant.1
    c.self.invariant.3 c.self.invariant.2 _ come
    ∙ ap (timers_behind c.args.timer c.args.change)
    (sym c.self.invariant.3.timers_are ∙ sym c.abort_those.ensures.within ∙ over.waits.timers_are) in (
      rw c.tell-after.ensures.same c.abort_those.ensures.held,
      rw (c.apply.ensures.names, c.tell-after.ensures.same)
          (over_shown _ _ _ _ _ _ _ _ c.args.timer c.args.change _ over names timers),
      rw c.tell-after.ensures.same (over_tallied _ _ _ _ _ _ _ _ c.args.timer c.args.change _ over names timers),
      rw (c.apply.ensures.timers, c.tell-after.ensures.same)
          (over_waits _ _ _ _ _ _ _ _ c.args.timer c.args.change _ over names timers),
      rw c.tell-after.ensures.same (streams_still g.H.Handler.marks g.C.Named.limits c.self.inside.streams (state_of g.C.Named.limits c.self.inside.keeper.past) _ c.self.invariant.4
          (still_changed g.H.Handler.marks g.C.Named.limits c.self.inside.timers c.self.inside.keeper.past
          c.self.invariant.1.settled c.self.invariant.3 None c.args.timer c.args.change _ come)),
    )

pub returns : goal.returns
returns g c =
    let one = rw c.learn.ensures.same at c.note_change-before.ensures.come in
    let come = change_come g.H.Handler.marks g.C.Named.limits c.self.inside.keeper.past c.self.inside.counts (names_of c.self.inside.names)
    c.self.inside.strands.items c.self.inside.jobs c.self.inside.timers c.self.inside.tally None c.args.timer c.args.change
    (rw c.learn.ensures.same at c.learn.ensures.legal) (rw (← c.self.view_is) at c.requires.alive) c.self.invariant.1
    c.self.invariant.3 c.self.invariant.2
    _ _ one (rw c.cancels_all.ensures at c.abort_those.ensures.aborted) in
    rw (← c.self.view_is, c.tell-after.ensures.same)
    (notes_all g.C.Named.limits _ _ _ c.self.inside.keeper.past _ come
    (rw c.learn.ensures.same at c.note_change-before.ensures.before) c.tell-after.ensures.told)
