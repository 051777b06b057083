use Rattle.std.proofs.Common.{arith, ap, refl, ◌∙◌}
use Rattle.std.specs.Prelude.{Some}
use Rattle.io_rules.specs.declared.event.Event.TheVariants as event
use Rattle.io_rules.specs.declared.request.Gone.TheVariants as gone
use Rattle.io_rules.specs.Legal.{after, state_of}
use Rattle.io_names.specs.Tables.{names_of}
use Rattle.io_scheduler.specs.Posted.{posting}
use Rattle.io_scheduler.proofs.CalledLemmas.{all_there, called_space, gone_offered, initiated_offered, offered_posting, shows_called}
use Rattle.io_scheduler.proofs.StagedLemmas.{is_called_alone, never_at_once}
use Rattle.io_scheduler.proofs.StayedLemmas.{stays_called, waits_stay}
use Rattle.io_scheduler.proofs.StreamedLemmas.{streams_stay}
use Rattle.io_scheduler.proofs.TallyLemmas.{tally_below, tally_calls}
use Rattle.io_scheduler.proofs.scheduler.Scheduler.post_by.Goals as goal

pub begin_call-left-requires : goal.begin_call-left-requires
begin_call-left-requires g c = record {
  table = c.requires.table;
  none = c.self.invariant.0;
  counts = c.self.invariant.1.counts_are;
  going = c.self.invariant.1.going;
  offered = initiated_offered c.args.kind (offered_posting c.args.kind c.requires.posting);
  given = rw (← c.self.view_is) at c.requires.there
      ∙ gone_offered (state_of g.C.Named.limits c.self.inside.keeper.past) c.args.lane c.args.kind (g.H.Handler.marks c.args.handler)
      (offered_posting c.args.kind c.requires.posting);
  place = c.requires.place;
}

pub call-requires : goal.call-requires
call-requires g c =
    let few = tally_below c.self.inside.tally (state_of g.C.Named.limits c.self.inside.keeper.past) c.self.invariant.2 in
    let next = ap (λ n. n.next) c.self.invariant.1.counts_are in
    let below = c.begin_call-left.ensures.below in
    omega (arith, few, next, below)

pub enter-requires : goal.enter-requires
enter-requires g c =
    let gives = c.begin_call-left.ensures.gives in
    let there = all_there (state_of g.C.Named.limits c.self.inside.keeper.past).names c.args.lane c.args.kind (rw (← c.self.view_is) at c.requires.there) in
    called_space g.H.Handler.marks g.C.Named.limits c.self.inside.keeper.past c.self.inside.counts
    (names_of c.self.inside.names) c.self.inside.strands.items c.self.inside.jobs c.args.running.op c.args.running.lane
    c.args.lane gives.own gives.grant c.args.running.spares c.args.running.held c.begin_call-left.ensures.legal
    gives.it gives.some there.lane c.self.invariant.1

pub invariant_of-self : goal.invariant_of-self
invariant_of-self g c =
    let s = state_of g.C.Named.limits c.self.inside.keeper.past in
    let gives = c.begin_call-left.ensures.gives in
    let there = all_there s.names c.args.lane c.args.kind (rw (← c.self.view_is) at c.requires.there) in
    let first = rw c.lane.ensures at c.goes_first-first.ensures in (
      c.begin_call-left.ensures.none,
      rw (c.begin_call-left.ensures.called, c.enter.ensures.strands, c.enter.ensures.jobs, c.begin_call-left.ensures.past)
          (shows_called g.H.Handler.marks g.C.Named.limits c.self.inside.counts (names_of c.self.inside.names)
          c.self.inside.strands.items c.self.inside.jobs s c.goes_first-first.result c.self.inside.counts.next
          c.args.running.op c.args.running.lane c.args.lane c.args.kind c.args.handler gives.own gives.grant
          c.args.running.spares c.args.running.held (ap (λ n. n.next) c.self.invariant.1.counts_are) c.requires.posting
          there.lane gives.it first c.self.invariant.1),
      rw (c.call.ensures, c.begin_call-left.ensures.past)
          (tally_calls c.self.inside.tally s c.goes_first-first.result c.self.inside.counts.next c.args.running.op
          c.args.running.lane c.args.lane c.args.kind (g.H.Handler.marks c.args.handler) gives.own gives.grant
          c.args.running.spares c.args.running.held c.self.invariant.2 c.requires.posting gives.it first),
      rw c.begin_call-left.ensures.past
          (waits_stay g.H.Handler.marks g.C.Named.limits c.self.inside.timers s _ c.self.invariant.3
          (stays_called s c.goes_first-first.result c.self.inside.counts.next c.args.running.op c.args.running.lane
          c.args.lane c.args.kind (g.H.Handler.marks c.args.handler) gives.own gives.grant c.args.running.spares
          c.args.running.held c.requires.posting gives.it first)),
      rw c.begin_call-left.ensures.past
          (streams_stay g.H.Handler.marks g.C.Named.limits c.self.inside.streams s _ c.self.invariant.4
          (stays_called s c.goes_first-first.result c.self.inside.counts.next c.args.running.op c.args.running.lane
          c.args.lane c.args.kind (g.H.Handler.marks c.args.handler) gives.own gives.grant c.args.running.spares
          c.args.running.held c.requires.posting gives.it first) refl),
    )

pub returns-clause-called : goal.returns-clause-called
returns-clause-called g c =
    let s = state_of g.C.Named.limits c.self.inside.keeper.past in
    let request = posting c.args.lane c.args.kind (g.H.Handler.marks c.args.handler) in
    let next = ap (λ n. n.next) c.self.invariant.1.counts_are in
    rw (← c.self.view_is)
    (is_called_alone c.args.running.op request gone.Nothing s _
    (rw (← c.self.view_is) at c.requires.there
    ∙ gone_offered s c.args.lane c.args.kind (g.H.Handler.marks c.args.handler)
    (offered_posting c.args.kind c.requires.posting))
    (never_at_once s c.args.kind (offered_posting c.args.kind c.requires.posting))
    (rw next at c.begin_call-left.ensures.may)
    (ap (state_of g.C.Named.limits) c.begin_call-left.ensures.past
    ∙ ap (λ n. after (event.Called n (Some c.args.running.op) request gone.Nothing) s) next))
