use Rattle.std.proofs.Common.{arith, ap, sym, ◌∙◌}
use Rattle.std.specs.Prelude.{None, if◌then◌else◌}
use Rattle.io_rules.specs.Legal.{state_of}
use Rattle.io_rules.specs.Ops.{is_running}
use Rattle.io_names.specs.Tables.{names_of}
use Rattle.io_scheduler.specs.Ended.{forgotten_state}
use Rattle.io_scheduler.proofs.EndedLemmas.{held_op_is, may_forget, retired_is, room_ended, runs_there, shows_ended}
use Rattle.io_scheduler.proofs.ForgottenLemmas.{last_is}
use Rattle.io_scheduler.proofs.TallyLemmas.{tally_ends}
use Rattle.io_scheduler.proofs.StayedLemmas.{length_life, stays_ended, waits_stay}
use Rattle.io_scheduler.proofs.StreamedLemmas.{streams_stay}
use Rattle.io_scheduler.proofs.scheduler.Scheduler.end_now.Goals as goal

pub overflow_cast-self : goal.overflow_cast-self
overflow_cast-self g c =
    let legal = rw (c.learn.ensures.same, c.take_back.ensures.past) at c.learn.ensures.legal in
    let it = held_op_is (state_of g.C.Named.limits c.self.inside.keeper.past) c.running.inside.op c.running.inside.lane
    c.running.inside.own c.running.inside.grant c.running.inside.spares c.running.inside.claim.held c.running.invariant
    (rw c.take_back.ensures.past at c.take_back.ensures.runs) in
    let most = room_ended g.H.Handler.marks g.C.Named.limits c.self.inside.keeper.past c.self.inside.counts
    (names_of c.self.inside.names) c.self.inside.strands.items c.self.inside.jobs c.running.inside.op c.running.inside.lane
    c.running.inside.own c.running.inside.grant c.running.inside.spares c.running.inside.claim.held legal it c.self.invariant.1 in
    let room = c.from.ensures in
    let places = c.places_of-places.ensures in
    omega (arith, most, room, places, c.self.ranges)

pub leave-requires-clause-from : goal.leave-requires-clause-from
leave-requires-clause-from g c =
    let legal = rw (c.learn.ensures.same, c.take_back.ensures.past) at c.learn.ensures.legal in
    let it = held_op_is (state_of g.C.Named.limits c.self.inside.keeper.past) c.running.inside.op c.running.inside.lane
    c.running.inside.own c.running.inside.grant c.running.inside.spares c.running.inside.claim.held c.running.invariant
    (rw c.take_back.ensures.past at c.take_back.ensures.runs) in
    runs_there g.H.Handler.marks g.C.Named.limits c.self.inside.keeper.past c.self.inside.counts
    (names_of c.self.inside.names) c.self.inside.strands.items c.self.inside.jobs c.running.inside.op it.op
    c.running.inside.lane legal it.is it.at (ap is_running it.runs) c.self.invariant.1

pub forget_if-requires : goal.forget_if-requires
forget_if-requires g c =
    let legal = rw (c.learn.ensures.same, c.take_back.ensures.past) at c.learn.ensures.legal in
    let it = held_op_is (state_of g.C.Named.limits c.self.inside.keeper.past) c.running.inside.op c.running.inside.lane
    c.running.inside.own c.running.inside.grant c.running.inside.spares c.running.inside.claim.held c.running.invariant
    (rw c.take_back.ensures.past at c.take_back.ensures.runs) in
    let last = last_is g.H.Handler.marks g.C.Named.limits c.self.inside.counts (names_of c.self.inside.names)
    c.self.inside.strands.items c.self.inside.jobs (state_of g.C.Named.limits c.self.inside.keeper.past)
    c.running.inside.lane c.is_last-last.result c.is_last-last.ensures c.self.invariant.1 in
    rw c.leave.ensures.strands
    (may_forget g.H.Handler.marks g.C.Named.limits c.self.inside.keeper.past c.self.inside.counts
    (names_of c.self.inside.names) (names_of c.give_back_all.new.self) c.self.inside.strands.items c.self.inside.jobs
    c.running.inside.op c.running.inside.lane c.running.inside.own c.running.inside.grant c.running.inside.spares
    c.running.inside.claim.held c.args.state c.is_last-last.result legal it c.give_back_all.ensures
    last (rw (← c.running.view_is) at c.requires.state) c.self.invariant.1)

pub invariant_of-self : goal.invariant_of-self
invariant_of-self g c =
    let legal = rw (c.learn.ensures.same, c.take_back.ensures.past) at c.learn.ensures.legal in
    let it = held_op_is (state_of g.C.Named.limits c.self.inside.keeper.past) c.running.inside.op c.running.inside.lane
    c.running.inside.own c.running.inside.grant c.running.inside.spares c.running.inside.claim.held c.running.invariant
    (rw c.take_back.ensures.past at c.take_back.ensures.runs) in
    let last = last_is g.H.Handler.marks g.C.Named.limits c.self.inside.counts (names_of c.self.inside.names)
    c.self.inside.strands.items c.self.inside.jobs (state_of g.C.Named.limits c.self.inside.keeper.past)
    c.running.inside.lane c.is_last-last.result c.is_last-last.ensures c.self.invariant.1 in (
      c.note_ended.ensures.none,
      rw (
        c.saturating_sub-self-inside.ensures,
        c.from.ensures,
        c.places_of-places.ensures,
        c.forget_if.ensures.names,
        c.forget_if.ensures.strands,
        c.leave.ensures.strands,
        c.leave.ensures.jobs,
        c.note_ended.ensures.past,
        c.learn.ensures.same,
        c.take_back.ensures.past,
      )
          (shows_ended g.H.Handler.marks g.C.Named.limits c.self.inside.keeper.past c.self.inside.counts
          (names_of c.self.inside.names) (names_of c.give_back_all.new.self) c.self.inside.strands.items c.self.inside.jobs
          c.running.inside.op c.args.mark c.running.inside.lane c.running.inside.own c.running.inside.grant
          c.running.inside.spares c.running.inside.claim.held c.args.state c.is_last-last.result legal it
          c.give_back_all.ensures last
          (rw (← c.running.view_is) at c.requires.state) c.self.invariant.1),
      rw (c.end.ensures, c.note_ended.ensures.past, c.learn.ensures.same, c.take_back.ensures.past)
          (tally_ends c.self.inside.tally (state_of g.C.Named.limits c.self.inside.keeper.past) c.running.inside.op
          c.args.mark c.self.invariant.2
          (rw (c.learn.ensures.same, c.take_back.ensures.past) at c.note_ended.ensures.may)),
      rw (c.note_ended.ensures.past, c.learn.ensures.same, c.take_back.ensures.past)
          (waits_stay g.H.Handler.marks g.C.Named.limits c.self.inside.timers (state_of g.C.Named.limits c.self.inside.keeper.past) _ c.self.invariant.3
          (stays_ended (state_of g.C.Named.limits c.self.inside.keeper.past) c.running.inside.op c.args.mark
          (rw (c.learn.ensures.same, c.take_back.ensures.past) at c.note_ended.ensures.may))),
      rw (c.note_ended.ensures.past, c.learn.ensures.same, c.take_back.ensures.past)
          (streams_stay g.H.Handler.marks g.C.Named.limits c.self.inside.streams (state_of g.C.Named.limits c.self.inside.keeper.past) _ c.self.invariant.4
          (stays_ended (state_of g.C.Named.limits c.self.inside.keeper.past) c.running.inside.op c.args.mark
          (rw (c.learn.ensures.same, c.take_back.ensures.past) at c.note_ended.ensures.may)) (length_life _ _ (state_of g.C.Named.limits c.self.inside.keeper.past).names.streams)),
    )

pub returns-clause-retired : goal.returns-clause-retired
returns-clause-retired g c =
    let legal = rw (c.learn.ensures.same, c.take_back.ensures.past) at c.learn.ensures.legal in
    let it = held_op_is (state_of g.C.Named.limits c.self.inside.keeper.past) c.running.inside.op c.running.inside.lane
    c.running.inside.own c.running.inside.grant c.running.inside.spares c.running.inside.claim.held c.running.invariant
    (rw c.take_back.ensures.past at c.take_back.ensures.runs) in
    let from = runs_there g.H.Handler.marks g.C.Named.limits c.self.inside.keeper.past c.self.inside.counts
    (names_of c.self.inside.names) c.self.inside.strands.items c.self.inside.jobs c.running.inside.op it.op
    c.running.inside.lane legal it.is it.at (ap is_running it.runs) c.self.invariant.1 in
    let last = last_is g.H.Handler.marks g.C.Named.limits c.self.inside.counts (names_of c.self.inside.names)
    c.self.inside.strands.items c.self.inside.jobs (state_of g.C.Named.limits c.self.inside.keeper.past)
    c.running.inside.lane c.is_last-last.result c.is_last-last.ensures c.self.invariant.1 in
    rw (← c.self.view_is, ← c.running.view_is)
    (c.forget_if.ensures.state
    ∙ ap (forgotten_state c.is_last-last.result c.running.inside.lane) c.leave.ensures.strands
    ∙ retired_is c.self.inside.strands.items c.self.inside.jobs c.running.inside.lane c.args.state c.is_last-last.result from
    (rw (← c.running.view_is) at c.requires.state)
    ∙ ap (λ b. if b then c.args.state else None) (sym last))
