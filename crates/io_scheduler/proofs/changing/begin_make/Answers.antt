use Rattle.std.proofs.Common.{arith, ap, refl, ◌∙◌}
use Rattle.std.specs.Prelude.{◌∷◌, Some}
use Rattle.io_rules.specs.declared.control.Control.TheVariants as control
use Rattle.io_rules.specs.declared.event.Event.TheVariants as event
use Rattle.io_rules.specs.Legal.{state_of}
use Rattle.io_scheduler.proofs.EndedLemmas.{held_op_is}
use Rattle.io_scheduler.proofs.TimerMadeLemmas.{held_made, may_make_by}
use Rattle.io_scheduler.proofs.changing.begin_make.Goals as goal

pub note_made_by-requires-clause-may : goal.note_made_by-requires-clause-may
note_made_by-requires-clause-may g c =
    let it = held_op_is (state_of g.C.Named.limits c.args.keeper.now.past) c.running.inside.op c.running.inside.lane
    c.running.inside.own c.running.inside.grant c.running.inside.spares c.running.inside.claim.held c.running.invariant
    (rw c.take_back.ensures.past at c.take_back.ensures.runs) in
    rw c.take_back.ensures.past
    (may_make_by (state_of g.C.Named.limits c.args.keeper.now.past) c.running.inside.op c.running.inside.lane
    c.running.inside.own c.running.inside.grant c.running.inside.spares c.running.inside.claim.held c.args.kind c.args.name
    c.requires.going it (rw (← c.running.view_is) at c.requires.kept))

pub give_out-claim-requires-clause-some : goal.give_out-claim-requires-clause-some
give_out-claim-requires-clause-some g c =
    let it = held_op_is (state_of g.C.Named.limits c.args.keeper.now.past) c.running.inside.op c.running.inside.lane
    c.running.inside.own c.running.inside.grant c.running.inside.spares c.running.inside.claim.held c.running.invariant
    (rw c.take_back.ensures.past at c.take_back.ensures.runs) in
    let held = held_made (state_of g.C.Named.limits c.args.keeper.now.past) c.running.inside.op c.running.inside.lane
    c.running.inside.own c.running.inside.grant c.running.inside.spares c.running.inside.claim.held c.note_made_by.new.keeper.held
    c.args.kind c.args.name c.running.invariant it
    (rw (c.take_back.ensures.past, c.take_back.ensures.held) at c.note_made_by.ensures.held) in
    held.some

pub invariant_of-result : goal.invariant_of-result
invariant_of-result g c =
    let it = held_op_is (state_of g.C.Named.limits c.args.keeper.now.past) c.running.inside.op c.running.inside.lane
    c.running.inside.own c.running.inside.grant c.running.inside.spares c.running.inside.claim.held c.running.invariant
    (rw c.take_back.ensures.past at c.take_back.ensures.runs) in
    let held = held_made (state_of g.C.Named.limits c.args.keeper.now.past) c.running.inside.op c.running.inside.lane
    c.running.inside.own c.running.inside.grant c.running.inside.spares c.running.inside.claim.held c.give_out-claim.result.held
    c.args.kind c.args.name c.running.invariant it
    (c.give_out-claim.ensures.held
    ∙ rw (c.take_back.ensures.past, c.take_back.ensures.held) at c.note_made_by.ensures.held) in
    rw c.without_spare.ensures held.executes

pub returns-clause-come : goal.returns-clause-come
returns-clause-come g c =
    let it = held_op_is (state_of g.C.Named.limits c.args.keeper.now.past) c.running.inside.op c.running.inside.lane
    c.running.inside.own c.running.inside.grant c.running.inside.spares c.running.inside.claim.held c.running.invariant
    (rw c.take_back.ensures.past at c.take_back.ensures.runs) in
    rw (← c.running.view_is)
    (record {
      may = (
        may_make_by (state_of g.C.Named.limits c.args.keeper.now.past) c.running.inside.op c.running.inside.lane
            c.running.inside.own c.running.inside.grant c.running.inside.spares c.running.inside.claim.held c.args.kind c.args.name
            c.requires.going it (rw (← c.running.view_is) at c.requires.kept),
        tt,
      );
      is = c.give_out-claim.ensures.past ∙ c.note_made_by.ensures.past
          ∙ ap (λ p. event.Changed (Some c.running.inside.op) (control.Make c.args.kind c.args.name) ∷ p)
          c.take_back.ensures.past;
    })

pub returns-clause-goes_on : goal.returns-clause-goes_on
returns-clause-goes_on g c =
    let it = held_op_is (state_of g.C.Named.limits c.args.keeper.now.past) c.running.inside.op c.running.inside.lane
    c.running.inside.own c.running.inside.grant c.running.inside.spares c.running.inside.claim.held c.running.invariant
    (rw c.take_back.ensures.past at c.take_back.ensures.runs) in
    let held = held_made (state_of g.C.Named.limits c.args.keeper.now.past) c.running.inside.op c.running.inside.lane
    c.running.inside.own c.running.inside.grant c.running.inside.spares c.running.inside.claim.held c.give_out-claim.result.held
    c.args.kind c.args.name c.running.invariant it
    (c.give_out-claim.ensures.held
    ∙ rw (c.take_back.ensures.past, c.take_back.ensures.held) at c.note_made_by.ensures.held) in
    rw (← c.running.view_is)
    (record { op = refl; lane = refl; places = omega arith; spares = c.without_spare.ensures; mark = held.mark })
