use Rattle.std.proofs.Common.{arith, ap, refl, sym, ◌∙◌}
use Rattle.std.specs.Prelude.{◌∷◌, [], None}
use Rattle.asio_types.specs.declared.code.Code.TheVariants as code
use Rattle.io_rules.specs.declared.event.Event.TheVariants as event
use Rattle.io_rules.specs.declared.request.Gone.TheVariants as gone
use Rattle.io_rules.specs.Legal.{state_of}
use Rattle.io_names.specs.Tables.{names_of}
use Rattle.io_scheduler.specs.Posted.{posting}
use Rattle.io_rules.proofs.TotalLemmas.{same}
use Rattle.io_scheduler.proofs.ToldLemmas.{call_told}
use Rattle.io_scheduler.proofs.AcceptedLemmas.{may_be_tied}
use Rattle.io_scheduler.proofs.ComeLemmas.{notes_all}
use Rattle.io_scheduler.proofs.TransferLemmas.{may_be_transferred, may_parts}
use Rattle.io_scheduler.proofs.TransferringLemmas.{transfer_last, transfer_shown, transfer_some, transfer_streams, transfer_tallied, transfer_waits}
use Rattle.io_scheduler.proofs.scheduler.Scheduler.transfer_pending.Goals as goal

pub note_posted-section-requires : goal.note_posted-section-requires
note_posted-section-requires g c =
    let shows = c.self.invariant.1 in
    record {
      table = c.requires.table;
      event = refl
          {a = event.Called c.self.inside.counts.next None
          (posting c.args.transfer.lane c.args.transfer.kind (g.H.Handler.marks c.args.transfer.handler)) gone.Nothing};
      may = rw c.learn.ensures.same
          (may_be_transferred _ c.self.inside.counts.next c.args.transfer.lane c.args.transfer.kind _ c.requires.kind
          shows.going (ap (λ n. n.next) shows.counts_are)
          (may_parts _ c.args.transfer.lane c.args.transfer.kind (rw (← c.self.view_is) at c.requires.may)));
      none = rw c.learn.ensures.same c.self.invariant.0;
    }

pub tie-requires : goal.tie-requires
tie-requires g c =
    let s = state_of g.C.Named.limits c.self.inside.keeper.past in
    let may = may_parts s c.args.transfer.lane c.args.transfer.kind (rw (← c.self.view_is) at c.requires.may) in
    let numbers = may.numbers in
    may_be_tied g.H.Handler.marks g.C.Named.limits c.self.inside.counts (names_of c.self.inside.names)
    c.self.inside.strands.items c.self.inside.jobs s (record { place = 0; generation = 0 }) c.args.transfer.handler
    (record {
      number = c.self.inside.counts.next;
      code = code.Ok;
      size = 0;
      buffer = None;
      made = None;
      handler = c.args.transfer.handler;
    }) c.self.invariant.1 c.args.transfer.lane may.there (omega (arith, numbers))

pub accept-requires-clause-room : goal.accept-requires-clause-room
accept-requires-clause-room g c =
    transfer_some g.H.Handler.marks g.C.Named.limits c.self.inside.keeper.past c.self.inside.timers c.self.inside.streams
    c.args.transfer.lane c.args.transfer.kind (rw c.learn.ensures.same at c.learn.ensures.legal) c.self.invariant.3
    c.self.invariant.4 (rw (← c.self.view_is) at c.requires.may)

pub accept-requires-clause-last : goal.accept-requires-clause-last
accept-requires-clause-last g c =
    transfer_last g.H.Handler.marks g.C.Named.limits c.self.inside.counts (names_of c.self.inside.names)
    c.self.inside.strands.items c.self.inside.jobs c.self.inside.streams
    (state_of g.C.Named.limits c.self.inside.keeper.past) c.self.invariant.1 c.self.invariant.4

pub invariant_of-self : goal.invariant_of-self
invariant_of-self g c = (
  c.note_posted-section.ensures.none,
  rw (
    c.tie.ensures
        (record {
          number = c.self.inside.counts.next;
          code = code.Ok;
          size = 0;
          buffer = None;
          made = None;
          handler = c.args.transfer.handler;
        }),
    c.note_posted-section.ensures.past,
    c.learn.ensures.same,
  )
      (transfer_shown g.H.Handler.marks g.C.Named.limits (state_of g.C.Named.limits c.self.inside.keeper.past) c.self.inside.counts
      (names_of c.self.inside.names) c.self.inside.strands.items c.self.inside.jobs c.self.inside.timers
      c.self.inside.streams c.self.inside.tally c.args.transfer.lane c.args.transfer.kind
      (record { stream = c.target_of-target.result.stream; side = c.target_of-target.result.side })
      c.args.transfer.handler c.is_first-first.result c.requires.kind c.target_of-target.ensures c.self.invariant.1
      c.self.invariant.3 c.self.invariant.4 c.self.invariant.2 (may_parts (state_of g.C.Named.limits c.self.inside.keeper.past) c.args.transfer.lane c.args.transfer.kind (rw (← c.self.view_is) at c.requires.may)).there (may_parts (state_of g.C.Named.limits c.self.inside.keeper.past) c.args.transfer.lane c.args.transfer.kind (rw (← c.self.view_is) at c.requires.may)).target
      c.is_first-first.ensures.none c.is_first-first.ensures.head (rw (← c.self.view_is) at c.requires.pending) _ refl),
  rw (c.pend.ensures, c.note_posted-section.ensures.past, c.learn.ensures.same)
      (transfer_tallied g.H.Handler.marks g.C.Named.limits (state_of g.C.Named.limits c.self.inside.keeper.past) c.self.inside.counts
      (names_of c.self.inside.names) c.self.inside.strands.items c.self.inside.jobs c.self.inside.timers
      c.self.inside.streams c.self.inside.tally c.args.transfer.lane c.args.transfer.kind
      (record { stream = c.target_of-target.result.stream; side = c.target_of-target.result.side })
      c.args.transfer.handler c.is_first-first.result c.requires.kind c.target_of-target.ensures c.self.invariant.1
      c.self.invariant.3 c.self.invariant.4 c.self.invariant.2 (may_parts (state_of g.C.Named.limits c.self.inside.keeper.past) c.args.transfer.lane c.args.transfer.kind (rw (← c.self.view_is) at c.requires.may)).there (may_parts (state_of g.C.Named.limits c.self.inside.keeper.past) c.args.transfer.lane c.args.transfer.kind (rw (← c.self.view_is) at c.requires.may)).target
      c.is_first-first.ensures.none c.is_first-first.ensures.head (rw (← c.self.view_is) at c.requires.pending)),
  rw (c.note_posted-section.ensures.past, c.learn.ensures.same)
      (transfer_waits g.H.Handler.marks g.C.Named.limits (state_of g.C.Named.limits c.self.inside.keeper.past) c.self.inside.counts
      (names_of c.self.inside.names) c.self.inside.strands.items c.self.inside.jobs c.self.inside.timers
      c.self.inside.streams c.self.inside.tally c.args.transfer.lane c.args.transfer.kind
      (record { stream = c.target_of-target.result.stream; side = c.target_of-target.result.side })
      c.args.transfer.handler c.is_first-first.result c.requires.kind c.target_of-target.ensures c.self.invariant.1
      c.self.invariant.3 c.self.invariant.4 c.self.invariant.2 (may_parts (state_of g.C.Named.limits c.self.inside.keeper.past) c.args.transfer.lane c.args.transfer.kind (rw (← c.self.view_is) at c.requires.may)).there (may_parts (state_of g.C.Named.limits c.self.inside.keeper.past) c.args.transfer.lane c.args.transfer.kind (rw (← c.self.view_is) at c.requires.may)).target
      c.is_first-first.ensures.none c.is_first-first.ensures.head (rw (← c.self.view_is) at c.requires.pending)),
  rw (c.accept.ensures.accepted, c.note_posted-section.ensures.past, c.learn.ensures.same)
      (transfer_streams g.H.Handler.marks g.C.Named.limits (state_of g.C.Named.limits c.self.inside.keeper.past) c.self.inside.counts
      (names_of c.self.inside.names) c.self.inside.strands.items c.self.inside.jobs c.self.inside.timers
      c.self.inside.streams c.self.inside.tally c.args.transfer.lane c.args.transfer.kind
      (record { stream = c.target_of-target.result.stream; side = c.target_of-target.result.side })
      c.args.transfer.handler c.is_first-first.result c.requires.kind c.target_of-target.ensures c.self.invariant.1
      c.self.invariant.3 c.self.invariant.4 c.self.invariant.2 (may_parts (state_of g.C.Named.limits c.self.inside.keeper.past) c.args.transfer.lane c.args.transfer.kind (rw (← c.self.view_is) at c.requires.may)).there (may_parts (state_of g.C.Named.limits c.self.inside.keeper.past) c.args.transfer.lane c.args.transfer.kind (rw (← c.self.view_is) at c.requires.may)).target
      c.is_first-first.ensures.none c.is_first-first.ensures.head (rw (← c.self.view_is) at c.requires.pending) c.args.transfer.buffer c.accept.result
      (transfer_some g.H.Handler.marks g.C.Named.limits c.self.inside.keeper.past c.self.inside.timers
      c.self.inside.streams c.args.transfer.lane c.args.transfer.kind
      (rw c.learn.ensures.same at c.learn.ensures.legal) c.self.invariant.3 c.self.invariant.4
      (rw (← c.self.view_is) at c.requires.may))),
)

pub returns : goal.returns
returns g c =
    let shows = c.self.invariant.1 in
    let called = event.Called c.self.inside.counts.next None
    (posting c.args.transfer.lane c.args.transfer.kind (g.H.Handler.marks c.args.transfer.handler)) gone.Nothing in
    record {
      noted = rw (← c.self.view_is)
          (notes_all g.C.Named.limits (called ∷ []) _ _ c.self.inside.keeper.past _
          (record {
            may = (
              may_be_transferred _ c.self.inside.counts.next c.args.transfer.lane c.args.transfer.kind _ c.requires.kind
                  shows.going (ap (λ n. n.next) shows.counts_are)
                  (may_parts _ c.args.transfer.lane c.args.transfer.kind (rw (← c.self.view_is) at c.requires.may)),
              tt,
            );
            is = rw c.learn.ensures.same at c.note_posted-section.ensures.past;
          })
          (rw c.learn.ensures.same at c.note_posted-section.ensures.before)
          (c.note_posted-section.ensures.after ∙ sym c.note_posted-section.ensures.past));
    }

pub invariant_of-result : goal.invariant_of-result
invariant_of-result g c = record {
  called = call_told _ _ _ _ c.note_posted-section.ensures.after (same c.self.inside.counts.next);
}
