use Rattle.std.proofs.Common.{arith, ap, refl, subst}
use Rattle.io_rules.specs.Legal.{state_of}
use Rattle.io_scheduler.specs.Left.{AreLeft}
use Rattle.io_scheduler.proofs.DroppedLemmas.{first_left, may_drop, no_ops}
use Rattle.io_scheduler.proofs.remains.Remains.drop_next.Goals as goal

pub note_of-requires : goal.note_of-requires
note_of-requires g c =
    let s = state_of g.C.Named.limits c.self.inside.keeper.past in
    record {
      table = c.requires;
      outside = record { nobody = refl; no_begin = λ begins. begins };
      may = may_drop g.H.Handler.marks c.in-Some.ready _ s c.self.invariant.1
          (subst (λ left. AreLeft g.H.Handler.marks left s.ops) c.in-Some.ensures.items c.self.invariant.2);
      none = c.self.invariant.0;
    }

pub invariant_of-self-in-Some : goal.invariant_of-self-in-Some
invariant_of-self-in-Some g c =
    let s = state_of g.C.Named.limits c.self.inside.keeper.past in
    let first = first_left g.H.Handler.marks c.in-Some.ready _ s.ops
    (subst (λ left. AreLeft g.H.Handler.marks left s.ops) c.in-Some.ensures.items c.self.invariant.2) in (
      c.note_of.ensures.none,
      rw c.note_of.ensures.past c.self.invariant.1,
      rw c.note_of.ensures.past first.rest,
      c.self.invariant.3,
    )

pub returns-in-Some-clause-dropped : goal.returns-in-Some-clause-dropped
returns-in-Some-clause-dropped g c =
    rw (← c.self.view_is)
    (record {
      op = c.in-Some.ready.number;
      step = record { may = c.note_of.ensures.may; is = ap (state_of g.C.Named.limits) c.note_of.ensures.past };
    })

pub returns-in-Some-clause-fewer : goal.returns-in-Some-clause-fewer
returns-in-Some-clause-fewer g c =
    let s = state_of g.C.Named.limits c.self.inside.keeper.past in
    let first = first_left g.H.Handler.marks c.in-Some.ready _ s.ops
    (subst (λ left. AreLeft g.H.Handler.marks left s.ops) c.in-Some.ensures.items c.self.invariant.2) in
    rw (← c.self.view_is, c.note_of.ensures.past) first.fewer

pub returns-in-None-clause-none : goal.returns-in-None-clause-none
returns-in-None-clause-none g c =
    rw (← c.self.view_is)
    (no_ops g.H.Handler.marks c.self.inside.left.items (state_of g.C.Named.limits c.self.inside.keeper.past).ops
    c.self.invariant.2 (let empty = c.in-None.ensures.cases.0 in omega (arith, empty)))
