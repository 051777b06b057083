use Rattle.std.proofs.Common.{arith, ap, refl, ◌∙◌}
use Rattle.std.specs.Prelude.{None, Some}
use Rattle.asio_types.specs.declared.code.Code.TheVariants as code
use Rattle.io_rules.specs.declared.event.Event.TheVariants as event
use Rattle.io_rules.specs.declared.request.Gone.TheVariants as gone
use Rattle.io_rules.specs.Legal.{after, state_of}
use Rattle.io_names.specs.Tables.{names_of}
use Rattle.io_scheduler.specs.Posted.{posting}
use Rattle.io_scheduler.proofs.AcceptedLemmas.{may_be_tied}
use Rattle.io_scheduler.proofs.CalledLemmas.{initiated_transfer}
use Rattle.io_scheduler.proofs.HandedLemmas.{all_for, handed_room, handed_shown, handed_streams, handed_tallied, handed_waits}
use Rattle.io_scheduler.proofs.OverLemmas.{gone_transfer}
use Rattle.io_scheduler.proofs.StagedLemmas.{is_called_alone}
use Rattle.io_scheduler.proofs.TransferringLemmas.{transfer_last}
use Rattle.io_scheduler.proofs.scheduler.Scheduler.transfer_on.Goals as goal

pub begin_call-left-requires : goal.begin_call-left-requires
begin_call-left-requires g c =
    let s = state_of g.C.Named.limits c.self.inside.keeper.past in
    record {
      table = c.requires.table;
      none = c.self.invariant.0;
      counts = c.self.invariant.1.counts_are;
      going = c.self.invariant.1.going;
      offered = initiated_transfer c.args.transfer.kind c.requires.kind;
      given = all_for s c.args.transfer.lane c.args.transfer.kind (rw (← c.self.view_is) at c.requires.lane)
          (rw (← c.self.view_is) at c.requires.there)
          ∙ gone_transfer s c.args.transfer.lane c.args.transfer.kind (g.H.Handler.marks c.args.transfer.handler) c.requires.kind;
      place = c.requires.place;
    }

pub tie-requires : goal.tie-requires
tie-requires g c =
    let below = c.begin_call-left.ensures.below in
    let next = ap (λ n. n.next) c.self.invariant.1.counts_are in
    may_be_tied g.H.Handler.marks g.C.Named.limits c.self.inside.counts (names_of c.self.inside.names)
    c.self.inside.strands.items c.self.inside.jobs (state_of g.C.Named.limits c.self.inside.keeper.past)
    (record { place = 0; generation = 0 }) c.args.transfer.handler
    (record {
      number = c.self.inside.counts.next;
      code = code.Ok;
      size = 0;
      buffer = None;
      made = None;
      handler = c.args.transfer.handler;
    }) c.self.invariant.1 c.args.transfer.lane (rw (← c.self.view_is) at c.requires.lane)
    (omega (arith, below, next))

pub accept-requires-clause-room : goal.accept-requires-clause-room
accept-requires-clause-room g c =
    handed_room g.H.Handler.marks g.C.Named.limits c.self.inside.keeper.past c.self.inside.counts
    (names_of c.self.inside.names) c.self.inside.strands.items c.self.inside.jobs c.self.inside.timers
    c.self.inside.streams c.args.running c.begin_call-left.ensures.legal c.begin_call-left.ensures.gives
    c.self.invariant.1 c.self.invariant.3 c.self.invariant.4

pub accept-requires-clause-last : goal.accept-requires-clause-last
accept-requires-clause-last g c =
    transfer_last g.H.Handler.marks g.C.Named.limits c.self.inside.counts (names_of c.self.inside.names)
    c.self.inside.strands.items c.self.inside.jobs c.self.inside.streams
    (state_of g.C.Named.limits c.self.inside.keeper.past) c.self.invariant.1 c.self.invariant.4

pub invariant_of-self : goal.invariant_of-self
invariant_of-self g c = (
  c.begin_call-left.ensures.none,
  rw (
    c.begin_call-left.ensures.called,
    c.tie.ensures
        (record {
          number = c.self.inside.counts.next;
          code = code.Ok;
          size = 0;
          buffer = None;
          made = None;
          handler = c.args.transfer.handler;
        }),
    c.begin_call-left.ensures.past,
  )
      (handed_shown g.H.Handler.marks g.C.Named.limits (state_of g.C.Named.limits c.self.inside.keeper.past) c.self.inside.counts
      (names_of c.self.inside.names) c.self.inside.strands.items c.self.inside.jobs c.self.inside.timers c.self.inside.streams
      c.self.inside.tally c.args.running.op c.args.transfer.lane c.args.transfer.kind
      (record { stream = c.target_of-target.result.stream; side = c.target_of-target.result.side })
      c.args.transfer.handler c.is_first-first.result c.requires.kind c.target_of-target.ensures c.self.invariant.1
      c.self.invariant.3 c.self.invariant.4 c.self.invariant.2 (rw (← c.self.view_is) at c.requires.lane)
      (rw (← c.self.view_is) at c.requires.there) c.is_first-first.ensures.none c.is_first-first.ensures.head
      (rw (← c.self.view_is) at c.requires.pending) _ refl),
  rw (c.pend.ensures, c.begin_call-left.ensures.past)
      (handed_tallied g.H.Handler.marks g.C.Named.limits (state_of g.C.Named.limits c.self.inside.keeper.past) c.self.inside.counts
      (names_of c.self.inside.names) c.self.inside.strands.items c.self.inside.jobs c.self.inside.timers c.self.inside.streams
      c.self.inside.tally c.args.running.op c.args.transfer.lane c.args.transfer.kind
      (record { stream = c.target_of-target.result.stream; side = c.target_of-target.result.side })
      c.args.transfer.handler c.is_first-first.result c.requires.kind c.target_of-target.ensures c.self.invariant.1
      c.self.invariant.3 c.self.invariant.4 c.self.invariant.2 (rw (← c.self.view_is) at c.requires.lane)
      (rw (← c.self.view_is) at c.requires.there) c.is_first-first.ensures.none c.is_first-first.ensures.head
      (rw (← c.self.view_is) at c.requires.pending)),
  rw c.begin_call-left.ensures.past
      (handed_waits g.H.Handler.marks g.C.Named.limits (state_of g.C.Named.limits c.self.inside.keeper.past) c.self.inside.counts
      (names_of c.self.inside.names) c.self.inside.strands.items c.self.inside.jobs c.self.inside.timers c.self.inside.streams
      c.self.inside.tally c.args.running.op c.args.transfer.lane c.args.transfer.kind
      (record { stream = c.target_of-target.result.stream; side = c.target_of-target.result.side })
      c.args.transfer.handler c.is_first-first.result c.requires.kind c.target_of-target.ensures c.self.invariant.1
      c.self.invariant.3 c.self.invariant.4 c.self.invariant.2 (rw (← c.self.view_is) at c.requires.lane)
      (rw (← c.self.view_is) at c.requires.there) c.is_first-first.ensures.none c.is_first-first.ensures.head
      (rw (← c.self.view_is) at c.requires.pending)),
  rw (c.accept.ensures.accepted, c.begin_call-left.ensures.past)
      (handed_streams g.H.Handler.marks g.C.Named.limits (state_of g.C.Named.limits c.self.inside.keeper.past) c.self.inside.counts
      (names_of c.self.inside.names) c.self.inside.strands.items c.self.inside.jobs c.self.inside.timers c.self.inside.streams
      c.self.inside.tally c.args.running.op c.args.transfer.lane c.args.transfer.kind
      (record { stream = c.target_of-target.result.stream; side = c.target_of-target.result.side })
      c.args.transfer.handler c.is_first-first.result c.requires.kind c.target_of-target.ensures c.self.invariant.1
      c.self.invariant.3 c.self.invariant.4 c.self.invariant.2 (rw (← c.self.view_is) at c.requires.lane)
      (rw (← c.self.view_is) at c.requires.there) c.is_first-first.ensures.none c.is_first-first.ensures.head
      (rw (← c.self.view_is) at c.requires.pending) c.args.transfer.buffer c.accept.result
      (handed_room g.H.Handler.marks g.C.Named.limits c.self.inside.keeper.past c.self.inside.counts
      (names_of c.self.inside.names) c.self.inside.strands.items c.self.inside.jobs c.self.inside.timers
      c.self.inside.streams c.args.running c.begin_call-left.ensures.legal c.begin_call-left.ensures.gives
      c.self.invariant.1 c.self.invariant.3 c.self.invariant.4)),
)

pub returns-clause-called : goal.returns-clause-called
returns-clause-called g c =
    let s = state_of g.C.Named.limits c.self.inside.keeper.past in
    let request = posting c.args.transfer.lane c.args.transfer.kind (g.H.Handler.marks c.args.transfer.handler) in
    let next = ap (λ n. n.next) c.self.invariant.1.counts_are in
    rw (← c.self.view_is)
    (is_called_alone c.args.running.op request gone.Nothing s _
    (all_for s c.args.transfer.lane c.args.transfer.kind (rw (← c.self.view_is) at c.requires.lane)
    (rw (← c.self.view_is) at c.requires.there)
    ∙ gone_transfer s c.args.transfer.lane c.args.transfer.kind (g.H.Handler.marks c.args.transfer.handler) c.requires.kind)
    (rw (← c.self.view_is) at c.requires.pending)
    (rw next at c.begin_call-left.ensures.may)
    (ap (state_of g.C.Named.limits) c.begin_call-left.ensures.past
    ∙ ap (λ n. after (event.Called n (Some c.args.running.op) request gone.Nothing) s) next))
