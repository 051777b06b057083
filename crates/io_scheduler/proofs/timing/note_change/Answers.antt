use Rattle.std.proofs.Common.{ap, subst, sym, ◌∙◌}
use Rattle.std.specs.Prelude.{◌∷◌}
use Rattle.io_rules.specs.Legal.{MayHappen, state_of}
use Rattle.io_scheduler.specs.Outside.{IsOutside}
use Rattle.io_scheduler.proofs.TimingLemmas.{change_outside, may_change}
use Rattle.io_scheduler.proofs.timing.note_change.Goals as goal

pub note_outside-requires : goal.note_outside-requires
note_outside-requires g c = record {
  table = c.requires.table;
  outside = subst IsOutside (sym c.requires.event) (change_outside c.args.timer c.args.change);
  may = rw c.tell-before.ensures.same
      (subst (MayHappen (state_of g.C.Named.limits c.args.keeper.now.past)) (sym c.requires.event)
      (may_change (state_of g.C.Named.limits c.args.keeper.now.past) c.args.timer c.args.change c.requires.going
      c.requires.alive));
  none = rw c.tell-before.ensures.same c.requires.none;
}

pub returns-clause-come : goal.returns-clause-come
returns-clause-come g c = record {
  may = (
    may_change (state_of g.C.Named.limits c.args.keeper.now.past) c.args.timer c.args.change c.requires.going
        c.requires.alive,
    tt,
  );
  is = c.note_outside.ensures.past ∙ ap (λ k. g.E.Happening.event ∷ k.past) c.tell-before.ensures.same
      ∙ ap (λ e. e ∷ c.args.keeper.now.past) c.requires.event;
}
