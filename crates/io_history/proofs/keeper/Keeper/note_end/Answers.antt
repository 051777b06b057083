use Rattle.std.proofs.Common.{ap, refl, subst, sym, ◌∙◌}
use Rattle.atomic_table.specs.Table.{keeps}
use Rattle.io_rules.specs.Legal.{MayHappen, state_of}
use Rattle.io_history.specs.Steps.{noted}
use Rattle.io_history.proofs.RuleLemmas.{notes}
use Rattle.io_history.proofs.keeper.Keeper.note_end.Goals as goal

pub load-requires : goal.load-requires
load-requires g c =
    let me = c.self.inside.seat.me.0 in
    let e = g.E.Happening.event in
    let may : MayHappen (state_of me.limits me.events) e =
    subst (λ limits. MayHappen (state_of limits me.events) e) (sym c.self.invariant.room)
    (rw (← c.self.view_is) at c.requires.may) in (
      c.self.invariant.here ∙ sym (c.table.view_is ∙ c.requires.table),
      c.table.invariant,
      λ s h sized at small. (
        noted e me,
        keeps,
        tt,
        notes e c.self.inside.seat.id me s.views c.self.invariant.keeps may (rw (← c.self.view_is) at c.requires.free) h at,
        refl,
      ),
    )
