use Rattle.std.proofs.Common.{arith, ap, refl, subst, sym, ◌∙◌}
use Rattle.std.specs.Prelude.{◌∷◌, Some}
use Rattle.asio_types.specs.declared.code.Code.TheVariants as code
use Rattle.io_rules.specs.declared.event.Event.TheVariants as event
use Rattle.io_rules.specs.Legal.{after, state_of}
use Rattle.io_names.specs.Tables.{names_of}
use Rattle.io_scheduler.specs.Called.{lane_left}
use Rattle.io_scheduler.specs.Posted.{posting}
use Rattle.io_scheduler.specs.Shown.{AreBelow}
use Rattle.io_scheduler.proofs.CalledLemmas.{called_space, gone_offered, initiated_offered, left_there}
use Rattle.io_scheduler.proofs.RefusedLemmas.{may_be_refused, shows_refused}
use Rattle.io_scheduler.proofs.StagedLemmas.{is_refused}
use Rattle.io_scheduler.proofs.StayedLemmas.{refused_places, stays_refused, waits_stay}
use Rattle.io_scheduler.proofs.StreamedLemmas.{streams_stay}
use Rattle.io_scheduler.proofs.TallyLemmas.{tally_below, tally_refused}
use Rattle.io_scheduler.proofs.scheduler.Scheduler.refuse_by.Goals as goal

pub begin_call-left-requires : goal.begin_call-left-requires
begin_call-left-requires g c = record {
  table = c.requires.table;
  none = c.self.invariant.0;
  counts = c.self.invariant.1.counts_are;
  going = c.self.invariant.1.going;
  offered = initiated_offered c.args.kind c.requires.offered;
  given = rw (← c.self.view_is) at c.requires.given
      ∙ gone_offered (state_of g.C.Named.limits c.self.inside.keeper.past) c.args.lane c.args.kind (g.H.Handler.marks c.args.handler) c.requires.offered;
  place = c.requires.place;
}

pub note_of-requires : goal.note_of-requires
note_of-requires g c = record {
  table = c.requires.table;
  outside = record { nobody = refl; no_begin = λ begins. begins };
  may = rw c.begin_call-left.ensures.past
      (may_be_refused c.self.inside.counts.next c.args.running.op c.args.lane c.args.kind (g.H.Handler.marks c.args.handler)
      c.args.given (state_of g.C.Named.limits c.self.inside.keeper.past) c.requires.offered c.requires.gone
      c.self.invariant.1.going c.self.invariant.1.settled
      (subst (λ k. AreBelow k (state_of g.C.Named.limits c.self.inside.keeper.past).ops)
      (sym (ap (λ n. n.next) c.self.invariant.1.counts_are)) c.self.invariant.1.below));
  none = c.begin_call-left.ensures.none;
}

pub call-requires : goal.call-requires
call-requires g c =
    let few = tally_below c.self.inside.tally (state_of g.C.Named.limits c.self.inside.keeper.past) c.self.invariant.2 in
    let next = ap (λ n. n.next) c.self.invariant.1.counts_are in
    let below = c.begin_call-left.ensures.below in
    omega (arith, few, next, below)

pub enter-requires : goal.enter-requires
enter-requires g c =
    let gives = c.begin_call-left.ensures.gives in
    let there = left_there (state_of g.C.Named.limits c.self.inside.keeper.past).names c.args.lane c.args.kind c.args.given
    (rw (← c.self.view_is) at c.requires.given) c.requires.gone in
    rw c.lane_left.ensures
    (called_space g.H.Handler.marks g.C.Named.limits c.self.inside.keeper.past c.self.inside.counts
    (names_of c.self.inside.names) c.self.inside.strands.items c.self.inside.jobs c.args.running.op c.args.running.lane
    (lane_left c.args.lane c.args.given) gives.own gives.grant c.args.running.spares c.args.running.held c.begin_call-left.ensures.legal
    gives.it gives.some there c.self.invariant.1)

pub invariant_of-self : goal.invariant_of-self
invariant_of-self g c =
    let s = state_of g.C.Named.limits c.self.inside.keeper.past in
    let next = ap (λ n. n.next) c.self.invariant.1.counts_are in
    let given = rw (← c.self.view_is) at c.requires.given in (
      c.note_of.ensures.none,
      rw (
        c.begin_call-left.ensures.called,
        c.enter.ensures.strands,
        c.enter.ensures.jobs,
        c.lane_left.ensures,
        c.note_of.ensures.past,
        c.begin_call-left.ensures.past,
      )
          (shows_refused g.H.Handler.marks g.C.Named.limits c.self.inside.counts (names_of c.self.inside.names)
          c.self.inside.strands.items c.self.inside.jobs s c.self.inside.counts.next c.args.running.op c.args.lane
          c.args.kind c.args.given c.args.handler next c.requires.offered given c.requires.gone c.self.invariant.1),
      rw (c.call.ensures, c.note_of.ensures.past, c.begin_call-left.ensures.past)
          (tally_refused c.self.inside.tally s c.self.inside.counts.next c.args.running.op c.args.lane c.args.kind
          (g.H.Handler.marks c.args.handler) c.args.given c.self.invariant.2 c.requires.offered c.requires.gone
          (subst (λ k. AreBelow k s.ops) (sym next) c.self.invariant.1.below)),
      rw (c.note_of.ensures.past, c.begin_call-left.ensures.past)
          (waits_stay g.H.Handler.marks g.C.Named.limits c.self.inside.timers s _ c.self.invariant.3
          (stays_refused g.H.Handler.marks g.C.Named.limits c.self.inside.timers s c.self.inside.counts.next
          c.args.running.op c.args.lane c.args.kind (g.H.Handler.marks c.args.handler) c.args.given next
          c.requires.offered c.requires.gone c.self.invariant.1.below c.self.invariant.3)),
      rw (c.note_of.ensures.past, c.begin_call-left.ensures.past)
          (streams_stay g.H.Handler.marks g.C.Named.limits c.self.inside.streams s _ c.self.invariant.4
          (stays_refused g.H.Handler.marks g.C.Named.limits c.self.inside.timers s c.self.inside.counts.next
          c.args.running.op c.args.lane c.args.kind (g.H.Handler.marks c.args.handler) c.args.given next
          c.requires.offered c.requires.gone c.self.invariant.1.below c.self.invariant.3)
          (refused_places s c.self.inside.counts.next c.args.running.op c.args.lane c.args.kind
          (g.H.Handler.marks c.args.handler) c.args.given c.requires.offered c.requires.gone
          (subst (λ k. AreBelow k s.ops) (sym next) c.self.invariant.1.below))),
    )

pub returns-clause-called : goal.returns-clause-called
returns-clause-called g c =
    let s = state_of g.C.Named.limits c.self.inside.keeper.past in
    let request = posting c.args.lane c.args.kind (g.H.Handler.marks c.args.handler) in
    let next = ap (λ n. n.next) c.self.invariant.1.counts_are in
    rw (← c.self.view_is)
    (is_refused c.args.running.op request c.args.given s _
    (rw (← c.self.view_is) at c.requires.given
    ∙ gone_offered s c.args.lane c.args.kind (g.H.Handler.marks c.args.handler) c.requires.offered) c.requires.gone
    (rw next at c.begin_call-left.ensures.may)
    (may_be_refused s.next c.args.running.op c.args.lane c.args.kind (g.H.Handler.marks c.args.handler) c.args.given s
    c.requires.offered c.requires.gone c.self.invariant.1.going c.self.invariant.1.settled c.self.invariant.1.below)
    (ap (state_of g.C.Named.limits)
    (c.note_of.ensures.past ∙ ap (λ past. event.Done c.self.inside.counts.next code.Bad 0 ∷ past) c.begin_call-left.ensures.past)
    ∙ ap (λ n. after (event.Done n code.Bad 0) (after (event.Called n (Some c.args.running.op) request c.args.given) s)) next))
