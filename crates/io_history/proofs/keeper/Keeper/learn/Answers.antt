use Rattle.std.proofs.Common.{refl, sym, ◌∙◌}
use Rattle.atomic_table.specs.Table.{keeps}
use Rattle.io_history.proofs.RuleLemmas.{learns}
use Rattle.io_history.proofs.keeper.Keeper.learn.Goals as goal

pub load-requires : goal.load-requires
load-requires g c =
    let me = c.self.inside.seat.me.0 in (
      c.self.invariant.here ∙ sym (c.table.view_is ∙ c.requires.table),
      c.table.invariant,
      λ s h sized at small.
          let r = learns c.self.inside.seat.id me s.views c.self.invariant.keeps h at in
          (me, keeps, tt, r.0, (record { same = refl; legal = r.1; told = r.2; held = r.3 })),
    )
