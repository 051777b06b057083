use Rattle.std.proofs.Common.{ap, refl, ◌∙◌}
use Rattle.std.specs.Prelude.{◌∷◌, [], None}
use Rattle.io_rules.specs.declared.event.Event.TheVariants as event
use Rattle.io_rules.specs.declared.request.Gone.TheVariants as gone
use Rattle.io_rules.specs.Legal.{state_of}
use Rattle.io_names.specs.Tables.{names_of}
use Rattle.io_scheduler.specs.Posted.{posting}
use Rattle.io_rules.proofs.TotalLemmas.{same}
use Rattle.io_scheduler.proofs.ToldLemmas.{call_still_told, call_told}
use Rattle.io_scheduler.proofs.ComeLemmas.{notes_all}
use Rattle.io_scheduler.proofs.SettledAtOnceLemmas.{once_may, once_names, once_shown, once_stays, once_tallied}
use Rattle.io_scheduler.proofs.SpaceLemmas.{posted_space}
use Rattle.io_scheduler.proofs.StayedLemmas.{waits_stay}
use Rattle.io_scheduler.proofs.StreamedLemmas.{streams_stay}
use Rattle.io_scheduler.proofs.TallyLemmas.{tally_room}
use Rattle.io_scheduler.proofs.TransferLemmas.{may_be_transferred, may_parts, posts}
use Rattle.io_scheduler.proofs.scheduler.Scheduler.transfer_settled.Goals as goal

pub note_posted-called-requires : goal.note_posted-called-requires
note_posted-called-requires g c =
    let shows = c.self.invariant.1 in
    record {
      table = c.requires.table;
      event = refl
          {a = event.Called c.self.inside.counts.next None
          (posting c.args.transfer.lane c.args.transfer.kind (g.H.Handler.marks c.args.transfer.handler)) gone.Nothing};
      may = rw c.learn.ensures.same
          (may_be_transferred _ c.self.inside.counts.next c.args.transfer.lane c.args.transfer.kind _ c.requires.kind
          shows.going (ap (λ n. n.next) shows.counts_are)
          (may_parts _ c.args.transfer.lane c.args.transfer.kind (rw (← c.self.view_is) at c.requires.may)));
      none = rw c.learn.ensures.same c.self.invariant.0;
    }

pub note_of-requires : goal.note_of-requires
note_of-requires g c = record {
  table = c.requires.table;
  outside = record { nobody = refl; no_begin = λ begins. begins };
  may = rw (c.note_posted-called.ensures.past, c.learn.ensures.same)
      (once_may g.H.Handler.marks g.C.Named.limits (state_of g.C.Named.limits c.self.inside.keeper.past) c.self.inside.counts
      (names_of c.self.inside.names) c.self.inside.strands.items c.self.inside.jobs c.self.inside.timers c.self.inside.streams
      c.self.inside.tally c.args.transfer.lane c.args.transfer.kind
      (record { stream = c.target_of-target.result.stream; side = c.target_of-target.result.side }) c.args.code
      c.args.transfer.buffer c.args.transfer.handler c.requires.kind c.target_of-target.ensures c.self.invariant.1
      c.self.invariant.3 c.self.invariant.4 c.self.invariant.2 (may_parts (state_of g.C.Named.limits c.self.inside.keeper.past) c.args.transfer.lane c.args.transfer.kind (rw (← c.self.view_is) at c.requires.may)).there (may_parts (state_of g.C.Named.limits c.self.inside.keeper.past) c.args.transfer.lane c.args.transfer.kind (rw (← c.self.view_is) at c.requires.may)).target
      (rw (← c.self.view_is) at c.requires.settled));
  none = c.note_posted-called.ensures.none;
}

pub call-requires : goal.call-requires
call-requires g c =
    tally_room c.self.inside.tally (state_of g.C.Named.limits c.self.inside.keeper.past) c.args.transfer.lane c.self.invariant.2
    (posts (state_of g.C.Named.limits c.self.inside.keeper.past) c.args.transfer.lane c.args.transfer.kind (rw (← c.self.view_is) at c.requires.may))

pub enter-requires : goal.enter-requires
enter-requires g c =
    posted_space g.H.Handler.marks g.C.Named.limits c.self.inside.keeper.past c.self.inside.counts
    (names_of c.self.inside.names) c.self.inside.strands.items c.self.inside.jobs c.args.transfer.lane
    (rw c.learn.ensures.same at c.learn.ensures.legal) c.self.invariant.1
    (posts (state_of g.C.Named.limits c.self.inside.keeper.past) c.args.transfer.lane c.args.transfer.kind (rw (← c.self.view_is) at c.requires.may))

pub invariant_of-self : goal.invariant_of-self
invariant_of-self g c = (
  rw c.tell-after.ensures.same c.note_of.ensures.none,
  rw (c.enter.ensures.strands, c.enter.ensures.jobs, c.tell-after.ensures.same, c.note_of.ensures.past, c.note_posted-called.ensures.past, c.learn.ensures.same)
      (once_shown g.H.Handler.marks g.C.Named.limits (state_of g.C.Named.limits c.self.inside.keeper.past) c.self.inside.counts
      (names_of c.self.inside.names) c.self.inside.strands.items c.self.inside.jobs c.self.inside.timers c.self.inside.streams
      c.self.inside.tally c.args.transfer.lane c.args.transfer.kind
      (record { stream = c.target_of-target.result.stream; side = c.target_of-target.result.side }) c.args.code
      c.args.transfer.buffer c.args.transfer.handler c.requires.kind c.target_of-target.ensures c.self.invariant.1
      c.self.invariant.3 c.self.invariant.4 c.self.invariant.2 (may_parts (state_of g.C.Named.limits c.self.inside.keeper.past) c.args.transfer.lane c.args.transfer.kind (rw (← c.self.view_is) at c.requires.may)).there (may_parts (state_of g.C.Named.limits c.self.inside.keeper.past) c.args.transfer.lane c.args.transfer.kind (rw (← c.self.view_is) at c.requires.may)).target
      (rw (← c.self.view_is) at c.requires.settled)),
  rw (c.call.ensures, c.tell-after.ensures.same, c.note_of.ensures.past, c.note_posted-called.ensures.past, c.learn.ensures.same)
      (once_tallied g.H.Handler.marks g.C.Named.limits (state_of g.C.Named.limits c.self.inside.keeper.past) c.self.inside.counts
      (names_of c.self.inside.names) c.self.inside.strands.items c.self.inside.jobs c.self.inside.timers c.self.inside.streams
      c.self.inside.tally c.args.transfer.lane c.args.transfer.kind
      (record { stream = c.target_of-target.result.stream; side = c.target_of-target.result.side }) c.args.code
      c.args.transfer.buffer c.args.transfer.handler c.requires.kind c.target_of-target.ensures c.self.invariant.1
      c.self.invariant.3 c.self.invariant.4 c.self.invariant.2 (may_parts (state_of g.C.Named.limits c.self.inside.keeper.past) c.args.transfer.lane c.args.transfer.kind (rw (← c.self.view_is) at c.requires.may)).there (may_parts (state_of g.C.Named.limits c.self.inside.keeper.past) c.args.transfer.lane c.args.transfer.kind (rw (← c.self.view_is) at c.requires.may)).target
      (rw (← c.self.view_is) at c.requires.settled)),
  rw (c.tell-after.ensures.same, c.note_of.ensures.past, c.note_posted-called.ensures.past, c.learn.ensures.same)
      (waits_stay g.H.Handler.marks g.C.Named.limits c.self.inside.timers (state_of g.C.Named.limits c.self.inside.keeper.past) _ c.self.invariant.3
      (once_stays g.H.Handler.marks g.C.Named.limits (state_of g.C.Named.limits c.self.inside.keeper.past) c.self.inside.counts
      (names_of c.self.inside.names) c.self.inside.strands.items c.self.inside.jobs c.self.inside.timers c.self.inside.streams
      c.self.inside.tally c.args.transfer.lane c.args.transfer.kind
      (record { stream = c.target_of-target.result.stream; side = c.target_of-target.result.side }) c.args.code
      c.args.transfer.buffer c.args.transfer.handler c.requires.kind c.target_of-target.ensures c.self.invariant.1
      c.self.invariant.3 c.self.invariant.4 c.self.invariant.2 (may_parts (state_of g.C.Named.limits c.self.inside.keeper.past) c.args.transfer.lane c.args.transfer.kind (rw (← c.self.view_is) at c.requires.may)).there (may_parts (state_of g.C.Named.limits c.self.inside.keeper.past) c.args.transfer.lane c.args.transfer.kind (rw (← c.self.view_is) at c.requires.may)).target
      (rw (← c.self.view_is) at c.requires.settled))),
  rw (c.tell-after.ensures.same, c.note_of.ensures.past, c.note_posted-called.ensures.past, c.learn.ensures.same)
      (streams_stay g.H.Handler.marks g.C.Named.limits c.self.inside.streams (state_of g.C.Named.limits c.self.inside.keeper.past) _ c.self.invariant.4
      (once_stays g.H.Handler.marks g.C.Named.limits (state_of g.C.Named.limits c.self.inside.keeper.past) c.self.inside.counts
      (names_of c.self.inside.names) c.self.inside.strands.items c.self.inside.jobs c.self.inside.timers c.self.inside.streams
      c.self.inside.tally c.args.transfer.lane c.args.transfer.kind
      (record { stream = c.target_of-target.result.stream; side = c.target_of-target.result.side }) c.args.code
      c.args.transfer.buffer c.args.transfer.handler c.requires.kind c.target_of-target.ensures c.self.invariant.1
      c.self.invariant.3 c.self.invariant.4 c.self.invariant.2 (may_parts (state_of g.C.Named.limits c.self.inside.keeper.past) c.args.transfer.lane c.args.transfer.kind (rw (← c.self.view_is) at c.requires.may)).there (may_parts (state_of g.C.Named.limits c.self.inside.keeper.past) c.args.transfer.lane c.args.transfer.kind (rw (← c.self.view_is) at c.requires.may)).target
      (rw (← c.self.view_is) at c.requires.settled))
      (once_names g.H.Handler.marks g.C.Named.limits (state_of g.C.Named.limits c.self.inside.keeper.past) c.self.inside.counts
      (names_of c.self.inside.names) c.self.inside.strands.items c.self.inside.jobs c.self.inside.timers c.self.inside.streams
      c.self.inside.tally c.args.transfer.lane c.args.transfer.kind
      (record { stream = c.target_of-target.result.stream; side = c.target_of-target.result.side }) c.args.code
      c.args.transfer.buffer c.args.transfer.handler c.requires.kind c.target_of-target.ensures c.self.invariant.1
      c.self.invariant.3 c.self.invariant.4 c.self.invariant.2 (may_parts (state_of g.C.Named.limits c.self.inside.keeper.past) c.args.transfer.lane c.args.transfer.kind (rw (← c.self.view_is) at c.requires.may)).there (may_parts (state_of g.C.Named.limits c.self.inside.keeper.past) c.args.transfer.lane c.args.transfer.kind (rw (← c.self.view_is) at c.requires.may)).target
      (rw (← c.self.view_is) at c.requires.settled))),
)

pub returns : goal.returns
returns g c =
    let shows = c.self.invariant.1 in
    let request = posting c.args.transfer.lane c.args.transfer.kind (g.H.Handler.marks c.args.transfer.handler) in
    let called = event.Called c.self.inside.counts.next None request gone.Nothing in
    let done = event.Done c.self.inside.counts.next c.args.code 0 in
    record {
      noted = rw (← c.self.view_is, c.tell-after.ensures.same)
          (notes_all g.C.Named.limits (called ∷ done ∷ []) _ _ c.self.inside.keeper.past _
          (record {
            may = (
              may_be_transferred _ c.self.inside.counts.next c.args.transfer.lane c.args.transfer.kind _ c.requires.kind
                  shows.going (ap (λ n. n.next) shows.counts_are)
                  (may_parts _ c.args.transfer.lane c.args.transfer.kind (rw (← c.self.view_is) at c.requires.may)),
              (
                once_may g.H.Handler.marks g.C.Named.limits (state_of g.C.Named.limits c.self.inside.keeper.past) c.self.inside.counts
                    (names_of c.self.inside.names) c.self.inside.strands.items c.self.inside.jobs c.self.inside.timers c.self.inside.streams
                    c.self.inside.tally c.args.transfer.lane c.args.transfer.kind
                    (record { stream = c.target_of-target.result.stream; side = c.target_of-target.result.side }) c.args.code
                    c.args.transfer.buffer c.args.transfer.handler c.requires.kind c.target_of-target.ensures c.self.invariant.1
                    c.self.invariant.3 c.self.invariant.4 c.self.invariant.2 (may_parts (state_of g.C.Named.limits c.self.inside.keeper.past) c.args.transfer.lane c.args.transfer.kind (rw (← c.self.view_is) at c.requires.may)).there (may_parts (state_of g.C.Named.limits c.self.inside.keeper.past) c.args.transfer.lane c.args.transfer.kind (rw (← c.self.view_is) at c.requires.may)).target
                    (rw (← c.self.view_is) at c.requires.settled),
                tt,
              ),
            );
            is = rw (c.note_posted-called.ensures.past, c.learn.ensures.same) at c.note_of.ensures.past;
          })
          (rw c.learn.ensures.same at c.note_posted-called.ensures.before)
          c.tell-after.ensures.told);
    }

pub invariant_of-result : goal.invariant_of-result
invariant_of-result g c = record {
  called = call_still_told _ _ _ _ (c.tell-after.ensures.told ∙ c.note_of.ensures.past)
      (call_told _ _ _ _ c.note_posted-called.ensures.past (same c.self.inside.counts.next));
}
