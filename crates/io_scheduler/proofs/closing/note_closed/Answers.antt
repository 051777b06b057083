use Rattle.std.proofs.Common.{ap, subst, sym, ◌∙◌}
use Rattle.std.specs.Prelude.{◌∷◌}
use Rattle.io_rules.specs.Legal.{MayHappen, state_of}
use Rattle.io_scheduler.specs.Outside.{IsOutside}
use Rattle.io_scheduler.proofs.ReachedLemmas.{may_close, outside_closed}
use Rattle.io_scheduler.proofs.closing.note_closed.Goals as goal

pub note_outside-requires : goal.note_outside-requires
note_outside-requires g c = record {
  table = c.requires.table;
  outside = subst IsOutside (sym c.requires.event) (outside_closed c.args.listener c.args.name);
  may = rw c.tell-before.ensures.same
      (subst (MayHappen (state_of g.C.Named.limits c.args.keeper.now.past)) (sym c.requires.event)
      (may_close (state_of g.C.Named.limits c.args.keeper.now.past) c.args.name c.args.listener c.requires.going
      c.requires.alive c.requires.kind));
  none = rw c.tell-before.ensures.same c.requires.none;
}

pub returns-clause-come : goal.returns-clause-come
returns-clause-come g c = record {
  may = (
    subst (MayHappen (state_of g.C.Named.limits c.args.keeper.now.past)) (sym c.requires.event)
        (may_close (state_of g.C.Named.limits c.args.keeper.now.past) c.args.name c.args.listener c.requires.going
        c.requires.alive c.requires.kind),
    tt,
  );
  is = c.note_outside.ensures.past ∙ ap (λ k. g.E.Happening.event ∷ k.past) c.tell-before.ensures.same;
}
