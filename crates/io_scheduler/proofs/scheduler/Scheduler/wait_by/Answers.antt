use Rattle.std.proofs.Common.{ap, refl, ◌∙◌}
use Rattle.std.specs.Prelude.{None, Some}
use Rattle.asio_types.specs.declared.code.Code.TheVariants as code
use Rattle.io_rules.specs.declared.event.Event.TheVariants as event
use Rattle.io_rules.specs.declared.operation.Operation.TheVariants as operation
use Rattle.io_rules.specs.declared.request.Gone.TheVariants as gone
use Rattle.io_rules.specs.Legal.{after, state_of}
use Rattle.io_names.specs.Tables.{names_of}
use Rattle.io_scheduler.specs.Accepted.{waiting_on}
use Rattle.io_scheduler.proofs.AwaitedLemmas.{awaited_last, awaited_pending, awaited_room, awaited_shown, awaited_tied, awaited_within}
use Rattle.io_scheduler.proofs.CalledLemmas.{gone_offered}
use Rattle.io_scheduler.proofs.StagedLemmas.{is_called}
use Rattle.io_scheduler.proofs.StreamedLemmas.{still_waiting, streams_still}
use Rattle.io_scheduler.proofs.TallyLemmas.{tally_waits}
use Rattle.io_scheduler.proofs.scheduler.Scheduler.wait_by.Goals as goal

pub begin_call-left-requires : goal.begin_call-left-requires
begin_call-left-requires g c = record {
  table = c.requires.table;
  none = c.self.invariant.0;
  counts = c.self.invariant.1.counts_are;
  going = c.self.invariant.1.going;
  offered = refl;
  given = rw (← c.self.view_is) at c.requires.there
      ∙ gone_offered (state_of g.C.Named.limits c.self.inside.keeper.past) c.args.lane (operation.Wait c.args.timer) (g.H.Handler.marks c.args.handler) refl;
  place = c.requires.place;
}

pub tie-requires : goal.tie-requires
tie-requires g c =
    awaited_tied g.H.Handler.marks g.C.Named.limits c.self.inside.keeper.past c.self.inside.counts
    (names_of c.self.inside.names) c.self.inside.strands.items c.self.inside.jobs c.self.inside.timers c.args.running
    c.args.lane c.args.timer c.args.handler c.begin_call-left.ensures.legal c.begin_call-left.ensures.gives
    c.self.invariant.1 c.self.invariant.3 (rw (← c.self.view_is) at c.requires.there)
    c.begin_call-left.ensures.below

pub wait-requires : goal.wait-requires
wait-requires g c = record {
  within = awaited_within g.H.Handler.marks g.C.Named.limits c.self.inside.keeper.past c.self.inside.counts
      (names_of c.self.inside.names) c.self.inside.strands.items c.self.inside.jobs c.self.inside.timers c.args.running
      c.args.lane c.args.timer c.args.handler c.begin_call-left.ensures.legal c.begin_call-left.ensures.gives
      c.self.invariant.1 c.self.invariant.3 (rw (← c.self.view_is) at c.requires.there);
  room = awaited_room g.H.Handler.marks g.C.Named.limits c.self.inside.keeper.past c.self.inside.counts
      (names_of c.self.inside.names) c.self.inside.strands.items c.self.inside.jobs c.self.inside.timers c.args.running
      c.args.lane c.args.timer c.args.handler c.begin_call-left.ensures.legal c.begin_call-left.ensures.gives
      c.self.invariant.1 c.self.invariant.3 (rw (← c.self.view_is) at c.requires.there);
  last = awaited_last g.H.Handler.marks g.C.Named.limits c.self.inside.keeper.past c.self.inside.counts
      (names_of c.self.inside.names) c.self.inside.strands.items c.self.inside.jobs c.self.inside.timers c.args.running
      c.args.lane c.args.timer c.args.handler c.begin_call-left.ensures.legal c.begin_call-left.ensures.gives
      c.self.invariant.1 c.self.invariant.3 (rw (← c.self.view_is) at c.requires.there);
}

pub invariant_of-self : goal.invariant_of-self
invariant_of-self g c = (
  c.begin_call-left.ensures.none,
  rw (
    c.begin_call-left.ensures.called,
    c.tie.ensures
        (record {
          number = c.self.inside.counts.next;
          code = code.Ok;
          size = 0;
          buffer = None;
          made = None;
          handler = c.args.handler;
        }),
    c.begin_call-left.ensures.past,
  )
      (awaited_shown g.H.Handler.marks g.C.Named.limits c.self.inside.keeper.past c.self.inside.counts
      (names_of c.self.inside.names) c.self.inside.strands.items c.self.inside.jobs c.self.inside.timers c.args.running
      c.args.lane c.args.timer c.args.handler c.begin_call-left.ensures.legal c.begin_call-left.ensures.gives
      c.self.invariant.1 c.self.invariant.3 (rw (← c.self.view_is) at c.requires.there)
      _ refl),
  rw c.begin_call-left.ensures.past
      (tally_waits c.self.inside.tally (state_of g.C.Named.limits c.self.inside.keeper.past) c.self.inside.counts.next
      (Some c.args.running.op) c.args.lane c.args.timer (g.H.Handler.marks c.args.handler) c.self.invariant.2),
  rw (c.wait.ensures.accepted, c.begin_call-left.ensures.past)
      (awaited_pending g.H.Handler.marks g.C.Named.limits c.self.inside.keeper.past c.self.inside.counts
      (names_of c.self.inside.names) c.self.inside.strands.items c.self.inside.jobs c.self.inside.timers c.args.running
      c.args.lane c.args.timer c.args.handler c.begin_call-left.ensures.legal c.begin_call-left.ensures.gives
      c.self.invariant.1 c.self.invariant.3 (rw (← c.self.view_is) at c.requires.there)
      c.wait.result),
  rw c.begin_call-left.ensures.past
      (streams_still g.H.Handler.marks g.C.Named.limits c.self.inside.streams
      (state_of g.C.Named.limits c.self.inside.keeper.past) _ c.self.invariant.4
      (still_waiting (state_of g.C.Named.limits c.self.inside.keeper.past) c.self.inside.counts.next
      (Some c.args.running.op) c.args.lane c.args.timer (g.H.Handler.marks c.args.handler))),
)

pub returns-clause-called : goal.returns-clause-called
returns-clause-called g c =
    let s = state_of g.C.Named.limits c.self.inside.keeper.past in
    let request = waiting_on c.args.lane c.args.timer (g.H.Handler.marks c.args.handler) in
    let next = ap (λ n. n.next) c.self.invariant.1.counts_are in
    rw (← c.self.view_is)
    (is_called c.args.running.op request gone.Nothing s _
    (rw (← c.self.view_is) at c.requires.there
    ∙ gone_offered s c.args.lane (operation.Wait c.args.timer) (g.H.Handler.marks c.args.handler) refl)
    (rw next at c.begin_call-left.ensures.may, tt)
    (ap (state_of g.C.Named.limits) c.begin_call-left.ensures.past
    ∙ ap (λ n. after (event.Called n (Some c.args.running.op) request gone.Nothing) s) next))
