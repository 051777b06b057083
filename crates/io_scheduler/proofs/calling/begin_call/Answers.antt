use Rattle.std.proofs.Common.{ap, refl, ◌∙◌}
use Rattle.io_rules.specs.Legal.{state_of}
use Rattle.io_scheduler.proofs.CalledLemmas.{called_number, held_calling, may_be_called}
use Rattle.io_scheduler.proofs.EndedLemmas.{held_op_is}
use Rattle.io_scheduler.proofs.GivenLemmas.{places_left}
use Rattle.io_scheduler.proofs.calling.begin_call.Goals as goal

pub note_called-requires-clause-may : goal.note_called-requires-clause-may
note_called-requires-clause-may g c =
    let it = held_op_is (state_of g.C.Named.limits c.args.keeper.now.past) c.running.inside.op c.running.inside.lane
    c.running.inside.own c.running.inside.grant c.running.inside.spares c.running.inside.claim.held c.running.invariant
    (rw c.take_back.ensures.past at c.take_back.ensures.runs) in
    rw (c.learn.ensures.same, c.take_back.ensures.past)
    (may_be_called (state_of g.C.Named.limits c.args.keeper.now.past) c.args.counts.now.next c.running.inside.op
    c.running.inside.lane c.args.lane c.args.kind (g.H.Handler.marks c.args.handler.now) c.args.given c.running.inside.own
    c.running.inside.grant c.running.inside.spares c.running.inside.claim.held c.requires.going
    (ap (λ n. n.next) c.requires.counts) c.requires.offered c.requires.given it
    (rw (← c.running.view_is) at c.requires.place))

pub take_kept-requires : goal.take_kept-requires
take_kept-requires g c =
    let it = held_op_is (state_of g.C.Named.limits c.args.keeper.now.past) c.running.inside.op c.running.inside.lane
    c.running.inside.own c.running.inside.grant c.running.inside.spares c.running.inside.claim.held c.running.invariant
    (rw c.take_back.ensures.past at c.take_back.ensures.runs) in
    called_number g.C.Named.limits c.args.keeper.now.past c.args.counts.now c.running.inside.op c.running.inside.lane
    c.running.inside.own c.running.inside.grant c.running.inside.spares c.running.inside.claim.held
    (rw (c.learn.ensures.same, c.take_back.ensures.past) at c.learn.ensures.legal) it
    (rw (← c.running.view_is) at c.requires.place) c.requires.going c.requires.counts

pub give_out-claim-requires-clause-some : goal.give_out-claim-requires-clause-some
give_out-claim-requires-clause-some g c =
    let it = held_op_is (state_of g.C.Named.limits c.args.keeper.now.past) c.running.inside.op c.running.inside.lane
    c.running.inside.own c.running.inside.grant c.running.inside.spares c.running.inside.claim.held c.running.invariant
    (rw c.take_back.ensures.past at c.take_back.ensures.runs) in
    let held = held_calling (state_of g.C.Named.limits c.args.keeper.now.past) c.args.counts.now.next c.running.inside.op
    c.running.inside.lane c.args.lane c.args.kind (g.H.Handler.marks c.args.handler.now) c.args.given c.running.inside.own
    c.running.inside.grant c.running.inside.spares c.running.inside.claim.held c.note_called.new.keeper.held
    c.running.invariant it
    (rw (c.learn.ensures.same, c.take_back.ensures.past, c.take_back.ensures.held) at c.note_called.ensures.held) in
    held.some

pub invariant_of-result : goal.invariant_of-result
invariant_of-result g c =
    let it = held_op_is (state_of g.C.Named.limits c.args.keeper.now.past) c.running.inside.op c.running.inside.lane
    c.running.inside.own c.running.inside.grant c.running.inside.spares c.running.inside.claim.held c.running.invariant
    (rw c.take_back.ensures.past at c.take_back.ensures.runs) in
    let held = held_calling (state_of g.C.Named.limits c.args.keeper.now.past) c.args.counts.now.next c.running.inside.op
    c.running.inside.lane c.args.lane c.args.kind (g.H.Handler.marks c.args.handler.now) c.args.given c.running.inside.own
    c.running.inside.grant c.running.inside.spares c.running.inside.claim.held c.give_out-claim.result.held
    c.running.invariant it
    (c.give_out-claim.ensures.held
    ∙ rw (c.learn.ensures.same, c.take_back.ensures.past, c.take_back.ensures.held) at c.note_called.ensures.held) in
    rw (c.own_left.ensures, c.saturating_sub.ensures) held.executes

pub returns-clause-may : goal.returns-clause-may
returns-clause-may g c =
    let it = held_op_is (state_of g.C.Named.limits c.args.keeper.now.past) c.running.inside.op c.running.inside.lane
    c.running.inside.own c.running.inside.grant c.running.inside.spares c.running.inside.claim.held c.running.invariant
    (rw c.take_back.ensures.past at c.take_back.ensures.runs) in
    rw (← c.running.view_is)
    (may_be_called (state_of g.C.Named.limits c.args.keeper.now.past) c.args.counts.now.next c.running.inside.op
    c.running.inside.lane c.args.lane c.args.kind (g.H.Handler.marks c.args.handler.now) c.args.given c.running.inside.own
    c.running.inside.grant c.running.inside.spares c.running.inside.claim.held c.requires.going
    (ap (λ n. n.next) c.requires.counts) c.requires.offered c.requires.given it
    (rw (← c.running.view_is) at c.requires.place))

pub returns-clause-past : goal.returns-clause-past
returns-clause-past g c =
    rw (← c.running.view_is)
    (c.give_out-claim.ensures.past
    ∙ rw (c.learn.ensures.same, c.take_back.ensures.past) at c.note_called.ensures.past)

pub returns-clause-legal : goal.returns-clause-legal
returns-clause-legal g c = rw (c.learn.ensures.same, c.take_back.ensures.past) at c.learn.ensures.legal

pub returns-clause-gives : goal.returns-clause-gives
returns-clause-gives g c =
    let it = held_op_is (state_of g.C.Named.limits c.args.keeper.now.past) c.running.inside.op c.running.inside.lane
    c.running.inside.own c.running.inside.grant c.running.inside.spares c.running.inside.claim.held c.running.invariant
    (rw c.take_back.ensures.past at c.take_back.ensures.runs) in
    rw (← c.running.view_is)
    (record {
      own = c.running.inside.own;
      grant = c.running.inside.grant;
      it = it;
      some = rw (← c.running.view_is) at c.requires.place;
    })

pub returns-clause-goes_on : goal.returns-clause-goes_on
returns-clause-goes_on g c =
    let it = held_op_is (state_of g.C.Named.limits c.args.keeper.now.past) c.running.inside.op c.running.inside.lane
    c.running.inside.own c.running.inside.grant c.running.inside.spares c.running.inside.claim.held c.running.invariant
    (rw c.take_back.ensures.past at c.take_back.ensures.runs) in
    let held = held_calling (state_of g.C.Named.limits c.args.keeper.now.past) c.args.counts.now.next c.running.inside.op
    c.running.inside.lane c.args.lane c.args.kind (g.H.Handler.marks c.args.handler.now) c.args.given c.running.inside.own
    c.running.inside.grant c.running.inside.spares c.running.inside.claim.held c.give_out-claim.result.held
    c.running.invariant it
    (c.give_out-claim.ensures.held
    ∙ rw (c.learn.ensures.same, c.take_back.ensures.past, c.take_back.ensures.held) at c.note_called.ensures.held) in
    rw (← c.running.view_is)
    (record {
      op = refl;
      lane = refl;
      places = rw (c.own_left.ensures, c.saturating_sub.ensures)
          (places_left c.running.inside.own c.running.inside.grant (rw (← c.running.view_is) at c.requires.place));
      spares = refl;
      mark = held.mark;
    })
