use Rattle.std.proofs.Common.{arith, ap, refl, subst, ◌∙◌}
use Rattle.std.specs.Prelude.{◌∷◌, Some}
use Rattle.io_rules.specs.declared.event.Event.TheVariants as event
use Rattle.io_rules.specs.Legal.{MayHappen, after, state_of}
use Rattle.io_names.specs.Tables.{names_of}
use Rattle.io_scheduler.specs.Called.{lane_left}
use Rattle.io_scheduler.specs.Posted.{posting}
use Rattle.io_scheduler.proofs.CalledLemmas.{called_space, initiated_transfer}
use Rattle.io_scheduler.proofs.OverLemmas.{gone_transfer, over_is, over_shown, over_streams, over_tallied, over_waits}
use Rattle.io_scheduler.proofs.StagedLemmas.{is_called_over}
use Rattle.io_scheduler.proofs.TallyLemmas.{tally_below}
use Rattle.io_scheduler.proofs.scheduler.Scheduler.transfer_over.Goals as goal

pub begin_call-left-requires : goal.begin_call-left-requires
begin_call-left-requires g c = record {
  table = c.requires.table;
  none = c.self.invariant.0;
  counts = c.self.invariant.1.counts_are;
  going = c.self.invariant.1.going;
  offered = initiated_transfer c.args.transfer.kind c.requires.kind;
  given = rw (← c.self.view_is) at c.requires.given
      ∙ gone_transfer (state_of g.C.Named.limits c.self.inside.keeper.past) c.args.transfer.lane c.args.transfer.kind
      (g.H.Handler.marks c.args.transfer.handler) c.requires.kind;
  place = c.requires.place;
}

pub note_of-requires : goal.note_of-requires
note_of-requires g c = record {
  table = c.requires.table;
  outside = record { nobody = refl; no_begin = λ begins. begins };
  may = rw c.begin_call-left.ensures.past
      (over_is g.H.Handler.marks g.C.Named.limits c.self.inside.streams
      (state_of g.C.Named.limits c.self.inside.keeper.past) c.args.running.op c.args.transfer.lane c.args.transfer.kind
      (g.H.Handler.marks c.args.transfer.handler)
      (record { stream = c.target_of-target.result.stream; side = c.target_of-target.result.side }) c.requires.kind
      c.target_of-target.ensures c.self.invariant.1.below c.self.invariant.1.settled c.self.invariant.1.going
      c.holds.ensures c.self.invariant.4 c.args.given c.args.code (rw (← c.self.view_is) at c.requires.given)
      (rw (← c.self.view_is) at c.requires.code) c.self.inside.counts.next
      (ap (λ n. n.next) c.self.invariant.1.counts_are)).may;
  none = c.begin_call-left.ensures.none;
}

pub call-requires : goal.call-requires
call-requires g c =
    let few = tally_below c.self.inside.tally (state_of g.C.Named.limits c.self.inside.keeper.past) c.self.invariant.2 in
    let next = ap (λ n. n.next) c.self.invariant.1.counts_are in
    let below = c.begin_call-left.ensures.below in
    omega (arith, few, next, below)

pub enter-requires : goal.enter-requires
enter-requires g c =
    let gives = c.begin_call-left.ensures.gives in
    let over = (over_is g.H.Handler.marks g.C.Named.limits c.self.inside.streams
    (state_of g.C.Named.limits c.self.inside.keeper.past) c.args.running.op c.args.transfer.lane c.args.transfer.kind
    (g.H.Handler.marks c.args.transfer.handler)
    (record { stream = c.target_of-target.result.stream; side = c.target_of-target.result.side }) c.requires.kind
    c.target_of-target.ensures c.self.invariant.1.below c.self.invariant.1.settled c.self.invariant.1.going
    c.holds.ensures c.self.invariant.4 c.args.given c.args.code (rw (← c.self.view_is) at c.requires.given)
    (rw (← c.self.view_is) at c.requires.code) c.self.inside.counts.next
    (ap (λ n. n.next) c.self.invariant.1.counts_are)) in
    rw c.lane_left-to.ensures
    (called_space g.H.Handler.marks g.C.Named.limits c.self.inside.keeper.past c.self.inside.counts
    (names_of c.self.inside.names) c.self.inside.strands.items c.self.inside.jobs c.args.running.op c.args.running.lane
    (lane_left c.args.transfer.lane c.args.given) gives.own gives.grant c.args.running.spares c.args.running.held
    c.begin_call-left.ensures.legal gives.it gives.some over.there c.self.invariant.1)

pub invariant_of-self : goal.invariant_of-self
invariant_of-self g c = (
  c.note_of.ensures.none,
  rw (
    c.begin_call-left.ensures.called,
    c.enter.ensures.strands,
    c.enter.ensures.jobs,
    c.lane_left-to.ensures,
    c.note_of.ensures.past,
    c.begin_call-left.ensures.past,
  )
      (over_shown g.H.Handler.marks g.C.Named.limits c.self.inside.counts (names_of c.self.inside.names)
      c.self.inside.strands.items c.self.inside.jobs c.self.inside.timers c.self.inside.streams c.self.inside.tally
      (state_of g.C.Named.limits c.self.inside.keeper.past) c.self.inside.counts.next c.args.running.op
      c.args.transfer.lane c.args.transfer.kind c.args.given c.args.code c.args.transfer.buffer c.args.transfer.handler
      (ap (λ n. n.next) c.self.invariant.1.counts_are)
      (over_is g.H.Handler.marks g.C.Named.limits c.self.inside.streams
      (state_of g.C.Named.limits c.self.inside.keeper.past) c.args.running.op c.args.transfer.lane c.args.transfer.kind
      (g.H.Handler.marks c.args.transfer.handler)
      (record { stream = c.target_of-target.result.stream; side = c.target_of-target.result.side }) c.requires.kind
      c.target_of-target.ensures c.self.invariant.1.below c.self.invariant.1.settled c.self.invariant.1.going
      c.holds.ensures c.self.invariant.4 c.args.given c.args.code (rw (← c.self.view_is) at c.requires.given)
      (rw (← c.self.view_is) at c.requires.code) c.self.inside.counts.next
      (ap (λ n. n.next) c.self.invariant.1.counts_are))
      c.self.invariant.1 c.self.invariant.3 c.self.invariant.4 c.self.invariant.2),
  rw (c.call.ensures, c.note_of.ensures.past, c.begin_call-left.ensures.past)
      (over_tallied g.H.Handler.marks g.C.Named.limits c.self.inside.counts (names_of c.self.inside.names)
      c.self.inside.strands.items c.self.inside.jobs c.self.inside.timers c.self.inside.streams c.self.inside.tally
      (state_of g.C.Named.limits c.self.inside.keeper.past) c.self.inside.counts.next c.args.running.op
      c.args.transfer.lane c.args.transfer.kind c.args.given c.args.code c.args.transfer.buffer c.args.transfer.handler
      (ap (λ n. n.next) c.self.invariant.1.counts_are)
      (over_is g.H.Handler.marks g.C.Named.limits c.self.inside.streams
      (state_of g.C.Named.limits c.self.inside.keeper.past) c.args.running.op c.args.transfer.lane c.args.transfer.kind
      (g.H.Handler.marks c.args.transfer.handler)
      (record { stream = c.target_of-target.result.stream; side = c.target_of-target.result.side }) c.requires.kind
      c.target_of-target.ensures c.self.invariant.1.below c.self.invariant.1.settled c.self.invariant.1.going
      c.holds.ensures c.self.invariant.4 c.args.given c.args.code (rw (← c.self.view_is) at c.requires.given)
      (rw (← c.self.view_is) at c.requires.code) c.self.inside.counts.next
      (ap (λ n. n.next) c.self.invariant.1.counts_are))
      c.self.invariant.1 c.self.invariant.3 c.self.invariant.4 c.self.invariant.2),
  rw (c.note_of.ensures.past, c.begin_call-left.ensures.past)
      (over_waits g.H.Handler.marks g.C.Named.limits c.self.inside.counts (names_of c.self.inside.names)
      c.self.inside.strands.items c.self.inside.jobs c.self.inside.timers c.self.inside.streams c.self.inside.tally
      (state_of g.C.Named.limits c.self.inside.keeper.past) c.self.inside.counts.next c.args.running.op
      c.args.transfer.lane c.args.transfer.kind c.args.given c.args.code c.args.transfer.buffer c.args.transfer.handler
      (ap (λ n. n.next) c.self.invariant.1.counts_are)
      (over_is g.H.Handler.marks g.C.Named.limits c.self.inside.streams
      (state_of g.C.Named.limits c.self.inside.keeper.past) c.args.running.op c.args.transfer.lane c.args.transfer.kind
      (g.H.Handler.marks c.args.transfer.handler)
      (record { stream = c.target_of-target.result.stream; side = c.target_of-target.result.side }) c.requires.kind
      c.target_of-target.ensures c.self.invariant.1.below c.self.invariant.1.settled c.self.invariant.1.going
      c.holds.ensures c.self.invariant.4 c.args.given c.args.code (rw (← c.self.view_is) at c.requires.given)
      (rw (← c.self.view_is) at c.requires.code) c.self.inside.counts.next
      (ap (λ n. n.next) c.self.invariant.1.counts_are))
      c.self.invariant.1 c.self.invariant.3 c.self.invariant.4 c.self.invariant.2),
  rw (c.note_of.ensures.past, c.begin_call-left.ensures.past)
      (over_streams g.H.Handler.marks g.C.Named.limits c.self.inside.counts (names_of c.self.inside.names)
      c.self.inside.strands.items c.self.inside.jobs c.self.inside.timers c.self.inside.streams c.self.inside.tally
      (state_of g.C.Named.limits c.self.inside.keeper.past) c.self.inside.counts.next c.args.running.op
      c.args.transfer.lane c.args.transfer.kind c.args.given c.args.code c.args.transfer.buffer c.args.transfer.handler
      (ap (λ n. n.next) c.self.invariant.1.counts_are)
      (over_is g.H.Handler.marks g.C.Named.limits c.self.inside.streams
      (state_of g.C.Named.limits c.self.inside.keeper.past) c.args.running.op c.args.transfer.lane c.args.transfer.kind
      (g.H.Handler.marks c.args.transfer.handler)
      (record { stream = c.target_of-target.result.stream; side = c.target_of-target.result.side }) c.requires.kind
      c.target_of-target.ensures c.self.invariant.1.below c.self.invariant.1.settled c.self.invariant.1.going
      c.holds.ensures c.self.invariant.4 c.args.given c.args.code (rw (← c.self.view_is) at c.requires.given)
      (rw (← c.self.view_is) at c.requires.code) c.self.inside.counts.next
      (ap (λ n. n.next) c.self.invariant.1.counts_are))
      c.self.invariant.1 c.self.invariant.3 c.self.invariant.4 c.self.invariant.2),
)

pub returns-clause-called : goal.returns-clause-called
returns-clause-called g c =
    let s = state_of g.C.Named.limits c.self.inside.keeper.past in
    let request = posting c.args.transfer.lane c.args.transfer.kind (g.H.Handler.marks c.args.transfer.handler) in
    let next = ap (λ n. n.next) c.self.invariant.1.counts_are in
    let over = (over_is g.H.Handler.marks g.C.Named.limits c.self.inside.streams
    (state_of g.C.Named.limits c.self.inside.keeper.past) c.args.running.op c.args.transfer.lane c.args.transfer.kind
    (g.H.Handler.marks c.args.transfer.handler)
    (record { stream = c.target_of-target.result.stream; side = c.target_of-target.result.side }) c.requires.kind
    c.target_of-target.ensures c.self.invariant.1.below c.self.invariant.1.settled c.self.invariant.1.going
    c.holds.ensures c.self.invariant.4 c.args.given c.args.code (rw (← c.self.view_is) at c.requires.given)
    (rw (← c.self.view_is) at c.requires.code) c.self.inside.counts.next
    (ap (λ n. n.next) c.self.invariant.1.counts_are)) in
    rw (← c.self.view_is)
    (is_called_over c.args.running.op request c.args.given c.args.code s _
    (rw (← c.self.view_is) at c.requires.given
    ∙ gone_transfer s c.args.transfer.lane c.args.transfer.kind (g.H.Handler.marks c.args.transfer.handler) c.requires.kind)
    (rw (← c.self.view_is) at c.requires.code)
    (rw next at c.begin_call-left.ensures.may)
    (subst (λ n. MayHappen (after (event.Called n (Some c.args.running.op) request c.args.given) s) (event.Done n c.args.code 0))
    next over.may)
    (ap (state_of g.C.Named.limits)
    (c.note_of.ensures.past ∙ ap (λ past. event.Done c.self.inside.counts.next c.args.code 0 ∷ past) c.begin_call-left.ensures.past)
    ∙ ap (λ n. after (event.Done n c.args.code 0) (after (event.Called n (Some c.args.running.op) request c.args.given) s)) next))
