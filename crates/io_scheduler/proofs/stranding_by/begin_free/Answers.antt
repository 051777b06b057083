use Rattle.std.proofs.Common.{arith, ap, refl, ◌∙◌}
use Rattle.std.specs.Prelude.{◌∷◌, Some}
use Rattle.io_rules.specs.declared.control.Control.TheVariants as control
use Rattle.io_rules.specs.declared.event.Event.TheVariants as event
use Rattle.io_rules.specs.declared.name.Kind.TheVariants as kind
use Rattle.io_rules.specs.Legal.{state_of}
use Rattle.io_history.specs.Steps.{held_still}
use Rattle.io_scheduler.proofs.EndedLemmas.{held_op_is}
use Rattle.io_scheduler.proofs.StrandMadeLemmas.{may_free_by}
use Rattle.io_scheduler.proofs.TimingLemmas.{held_cancelled, runs_held}
use Rattle.io_scheduler.proofs.stranding_by.begin_free.Goals as goal

pub note_freed_by-requires-clause-may : goal.note_freed_by-requires-clause-may
note_freed_by-requires-clause-may g c =
    let it = held_op_is (state_of g.C.Named.limits c.args.keeper.now.past) c.running.inside.op c.running.inside.lane
    c.running.inside.own c.running.inside.grant c.running.inside.spares c.running.inside.claim.held c.running.invariant (rw c.take_back.ensures.past at c.take_back.ensures.runs) in
    rw c.take_back.ensures.past
    (may_free_by (state_of g.C.Named.limits c.args.keeper.now.past) c.running.inside.op c.args.name c.requires.going
    (runs_held (state_of g.C.Named.limits c.args.keeper.now.past) c.running.inside.op c.running.inside.lane
    c.running.inside.own c.running.inside.grant c.running.inside.spares c.running.inside.claim.held it))

pub give_out-claim-requires-clause-some : goal.give_out-claim-requires-clause-some
give_out-claim-requires-clause-some g c =
    let it = held_op_is (state_of g.C.Named.limits c.args.keeper.now.past) c.running.inside.op c.running.inside.lane
    c.running.inside.own c.running.inside.grant c.running.inside.spares c.running.inside.claim.held c.running.invariant (rw c.take_back.ensures.past at c.take_back.ensures.runs) in
    (held_cancelled (state_of g.C.Named.limits c.args.keeper.now.past) c.running.inside.op c.running.inside.lane
    c.running.inside.own c.running.inside.grant c.running.inside.spares c.running.inside.claim.held _
    (control.Free kind.Strand c.args.name)
    refl
    c.running.invariant it
    (c.note_freed_by.ensures.held
    ∙ ap (λ p. held_still (state_of g.C.Named.limits (event.Changed (Some c.running.inside.op) (control.Free kind.Strand c.args.name) ∷ p))
    c.take_back.new.self.held) c.take_back.ensures.past
    ∙ ap (held_still (state_of g.C.Named.limits (event.Changed (Some c.running.inside.op) (control.Free kind.Strand c.args.name) ∷ c.args.keeper.now.past)))
    c.take_back.ensures.held)).some

pub invariant_of-result : goal.invariant_of-result
invariant_of-result g c =
    let it = held_op_is (state_of g.C.Named.limits c.args.keeper.now.past) c.running.inside.op c.running.inside.lane
    c.running.inside.own c.running.inside.grant c.running.inside.spares c.running.inside.claim.held c.running.invariant (rw c.take_back.ensures.past at c.take_back.ensures.runs) in
    (held_cancelled (state_of g.C.Named.limits c.args.keeper.now.past) c.running.inside.op c.running.inside.lane
    c.running.inside.own c.running.inside.grant c.running.inside.spares c.running.inside.claim.held _
    (control.Free kind.Strand c.args.name)
    refl
    c.running.invariant it
    (c.give_out-claim.ensures.held
    ∙ c.note_freed_by.ensures.held
    ∙ ap (λ p. held_still (state_of g.C.Named.limits (event.Changed (Some c.running.inside.op) (control.Free kind.Strand c.args.name) ∷ p))
    c.take_back.new.self.held) c.take_back.ensures.past
    ∙ ap (held_still (state_of g.C.Named.limits (event.Changed (Some c.running.inside.op) (control.Free kind.Strand c.args.name) ∷ c.args.keeper.now.past)))
    c.take_back.ensures.held)).executes

pub returns-clause-come : goal.returns-clause-come
returns-clause-come g c =
    let it = held_op_is (state_of g.C.Named.limits c.args.keeper.now.past) c.running.inside.op c.running.inside.lane
    c.running.inside.own c.running.inside.grant c.running.inside.spares c.running.inside.claim.held c.running.invariant (rw c.take_back.ensures.past at c.take_back.ensures.runs) in
    rw (← c.running.view_is)
    (record {
      may = (
        may_free_by (state_of g.C.Named.limits c.args.keeper.now.past) c.running.inside.op c.args.name
            c.requires.going (runs_held (state_of g.C.Named.limits c.args.keeper.now.past) c.running.inside.op c.running.inside.lane
            c.running.inside.own c.running.inside.grant c.running.inside.spares c.running.inside.claim.held it),
        tt,
      );
      is = c.give_out-claim.ensures.past ∙ c.note_freed_by.ensures.past
          ∙ ap (λ p. event.Changed (Some c.running.inside.op) (control.Free kind.Strand c.args.name) ∷ p)
          c.take_back.ensures.past;
    })

pub returns-clause-goes_on : goal.returns-clause-goes_on
returns-clause-goes_on g c =
    let it = held_op_is (state_of g.C.Named.limits c.args.keeper.now.past) c.running.inside.op c.running.inside.lane
    c.running.inside.own c.running.inside.grant c.running.inside.spares c.running.inside.claim.held c.running.invariant (rw c.take_back.ensures.past at c.take_back.ensures.runs) in
    let held = held_cancelled (state_of g.C.Named.limits c.args.keeper.now.past) c.running.inside.op c.running.inside.lane
    c.running.inside.own c.running.inside.grant c.running.inside.spares c.running.inside.claim.held _
    (control.Free kind.Strand c.args.name)
    refl
    c.running.invariant it
    (c.give_out-claim.ensures.held
    ∙ c.note_freed_by.ensures.held
    ∙ ap (λ p. held_still (state_of g.C.Named.limits (event.Changed (Some c.running.inside.op) (control.Free kind.Strand c.args.name) ∷ p))
    c.take_back.new.self.held) c.take_back.ensures.past
    ∙ ap (held_still (state_of g.C.Named.limits (event.Changed (Some c.running.inside.op) (control.Free kind.Strand c.args.name) ∷ c.args.keeper.now.past)))
    c.take_back.ensures.held) in
    rw (← c.running.view_is)
    (record { op = refl; lane = refl; places = omega arith; spares = refl; mark = held.mark })
