use Rattle.std.proofs.Common.{ap, sym, ◌∙◌}
use Rattle.std.specs.Prelude.{Some}
use Rattle.io_rules.specs.Legal.{state_of}
use Rattle.io_names.specs.Tables.{names_of}
use Rattle.io_scheduler.specs.Timing.{names_behind, timers_behind}
use Rattle.io_scheduler.proofs.StreamedLemmas.{still_changed, streams_still}
use Rattle.io_scheduler.proofs.TimingLemmas.{change_cancelling, change_come, change_names, change_only, change_timers, change_used, change_within, is_changed, over_shown, over_tallied, over_waits}
use Rattle.io_scheduler.proofs.scheduler.Scheduler.change_alive_by.Goals as goal

pub begin_change-left-requires : goal.begin_change-left-requires
begin_change-left-requires g c = record {
  table = c.requires.table;
  none = rw c.learn.ensures.same c.self.invariant.0;
  going = rw c.learn.ensures.same c.self.invariant.1.going;
}

pub abort_those-requires : goal.abort_those-requires
abort_those-requires g c = record {
  table = c.requires.table;
  none = c.begin_change-left.ensures.none;
  within = change_within g.H.Handler.marks g.C.Named.limits c.self.inside.keeper.past c.self.inside.counts (names_of c.self.inside.names)
      c.self.inside.strands.items c.self.inside.jobs c.self.inside.timers c.self.inside.tally (Some c.args.running.op)
      c.args.timer c.args.change
      (rw c.learn.ensures.same at c.learn.ensures.legal) (rw (← c.self.view_is) at c.requires.alive) c.self.invariant.1
      c.self.invariant.3 c.self.invariant.2;
  only = change_only g.H.Handler.marks g.C.Named.limits c.self.inside.keeper.past c.self.inside.counts (names_of c.self.inside.names)
      c.self.inside.strands.items c.self.inside.jobs c.self.inside.timers c.self.inside.tally (Some c.args.running.op)
      c.args.timer c.args.change
      (rw c.learn.ensures.same at c.learn.ensures.legal) (rw (← c.self.view_is) at c.requires.alive) c.self.invariant.1
      c.self.invariant.3 c.self.invariant.2;
  cancelling = rw c.cancels_all.ensures
      (change_cancelling g.H.Handler.marks g.C.Named.limits c.self.inside.keeper.past c.self.inside.counts (names_of c.self.inside.names)
      c.self.inside.strands.items c.self.inside.jobs c.self.inside.timers c.self.inside.tally (Some c.args.running.op)
      c.args.timer c.args.change
      (rw c.learn.ensures.same at c.learn.ensures.legal) (rw (← c.self.view_is) at c.requires.alive) c.self.invariant.1
      c.self.invariant.3 c.self.invariant.2 _ (rw c.learn.ensures.same at c.begin_change-left.ensures.come));
}

pub apply-requires : goal.apply-requires
apply-requires g c = record {
  within = rw c.abort_those.ensures.within (change_within g.H.Handler.marks g.C.Named.limits c.self.inside.keeper.past c.self.inside.counts (names_of c.self.inside.names)
      c.self.inside.strands.items c.self.inside.jobs c.self.inside.timers c.self.inside.tally (Some c.args.running.op)
      c.args.timer c.args.change
      (rw c.learn.ensures.same at c.learn.ensures.legal) (rw (← c.self.view_is) at c.requires.alive) c.self.invariant.1
      c.self.invariant.3 c.self.invariant.2);
  only = c.abort_those.ensures.only;
  none = rw (← c.cancels_all.ensures) c.abort_those.ensures.none;
  used = change_used g.H.Handler.marks g.C.Named.limits c.self.inside.keeper.past c.self.inside.counts (names_of c.self.inside.names)
      c.self.inside.strands.items c.self.inside.jobs c.self.inside.timers c.self.inside.tally (Some c.args.running.op)
      c.args.timer c.args.change
      (rw c.learn.ensures.same at c.learn.ensures.legal) (rw (← c.self.view_is) at c.requires.alive) c.self.invariant.1
      c.self.invariant.3 c.self.invariant.2;
}

pub invariant_of-self : goal.invariant_of-self
invariant_of-self g c =
    let one = rw c.learn.ensures.same at c.begin_change-left.ensures.come in
    let come = change_come g.H.Handler.marks g.C.Named.limits c.self.inside.keeper.past c.self.inside.counts (names_of c.self.inside.names)
    c.self.inside.strands.items c.self.inside.jobs c.self.inside.timers c.self.inside.tally (Some c.args.running.op)
    c.args.timer c.args.change
    (rw c.learn.ensures.same at c.learn.ensures.legal) (rw (← c.self.view_is) at c.requires.alive) c.self.invariant.1
    c.self.invariant.3 c.self.invariant.2
    _ _ one (rw c.cancels_all.ensures at c.abort_those.ensures.aborted) in
    let over = c.abort_those.ensures.cancelling in
    let names = change_names g.H.Handler.marks g.C.Named.limits c.self.inside.keeper.past c.self.inside.counts (names_of c.self.inside.names)
    c.self.inside.strands.items c.self.inside.jobs c.self.inside.timers c.self.inside.tally (Some c.args.running.op)
    c.args.timer c.args.change
    (rw c.learn.ensures.same at c.learn.ensures.legal) (rw (← c.self.view_is) at c.requires.alive) c.self.invariant.1
    c.self.invariant.3 c.self.invariant.2 _ come
    ∙ ap (names_behind c.args.timer c.args.change) (sym c.self.invariant.1.names_are ∙ over.shows.names_are) in
    let timers = change_timers g.H.Handler.marks g.C.Named.limits c.self.inside.keeper.past c.self.inside.counts (names_of c.self.inside.names)
    c.self.inside.strands.items c.self.inside.jobs c.self.inside.timers c.self.inside.tally (Some c.args.running.op)
    c.args.timer c.args.change
    (rw c.learn.ensures.same at c.learn.ensures.legal) (rw (← c.self.view_is) at c.requires.alive) c.self.invariant.1
    c.self.invariant.3 c.self.invariant.2 _ come
    ∙ ap (timers_behind c.args.timer c.args.change)
    (sym c.self.invariant.3.timers_are ∙ sym c.abort_those.ensures.within ∙ over.waits.timers_are) in (
      c.abort_those.ensures.held,
      rw c.apply.ensures.names (over_shown _ _ _ _ _ _ _ _ c.args.timer c.args.change _ over names timers),
      over_tallied _ _ _ _ _ _ _ _ c.args.timer c.args.change _ over names timers,
      rw c.apply.ensures.timers (over_waits _ _ _ _ _ _ _ _ c.args.timer c.args.change _ over names timers),
      streams_still g.H.Handler.marks g.C.Named.limits c.self.inside.streams (state_of g.C.Named.limits c.self.inside.keeper.past) _ c.self.invariant.4
          (still_changed g.H.Handler.marks g.C.Named.limits c.self.inside.timers c.self.inside.keeper.past
          c.self.invariant.1.settled c.self.invariant.3 (Some c.args.running.op) c.args.timer c.args.change _ come),
    )

pub returns-clause-changed : goal.returns-clause-changed
returns-clause-changed g c =
    let one = rw c.learn.ensures.same at c.begin_change-left.ensures.come in
    let come = change_come g.H.Handler.marks g.C.Named.limits c.self.inside.keeper.past c.self.inside.counts (names_of c.self.inside.names)
    c.self.inside.strands.items c.self.inside.jobs c.self.inside.timers c.self.inside.tally (Some c.args.running.op)
    c.args.timer c.args.change
    (rw c.learn.ensures.same at c.learn.ensures.legal) (rw (← c.self.view_is) at c.requires.alive) c.self.invariant.1
    c.self.invariant.3 c.self.invariant.2
    _ _ one (rw c.cancels_all.ensures at c.abort_those.ensures.aborted) in
    rw (← c.self.view_is) (is_changed g.C.Named.limits _ _ c.self.inside.keeper.past _ come)
