use Rattle.std.proofs.Common.{ℕ, ap, refl, sym, ◌∙◌}
use Rattle.atomic_table.specs.Table.{Me, keeps}
use Rattle.io_history.specs.declared.view.View.{View}
use Rattle.io_history.proofs.RuleLemmas.{learns, takes_in}
use Rattle.io_history.proofs.keeper.Keeper.take_in.Goals as goal

pub join_seat-requires : goal.join_seat-requires
join_seat-requires g c =
    let here = sym (c.table.view_is ∙ c.requires.table) in (
      c.self.invariant.here ∙ here,
      c.requires.other.here ∙ here,
      c.requires.other.slots,
      c.table.invariant,
      λ s h at apart there.
          takes_in c.self.inside.seat.id c.self.inside.seat.me.0 c.args.other.id c.args.other.me.0 s.views
          c.self.invariant.keeps h at apart there,
    )

pub load-requires : goal.load-requires
load-requires g c =
    let e = c.join_seat.ensures in
    let new = c.join_seat.new.seat.me in (
      e.0 ∙ c.self.invariant.here ∙ sym (c.table.view_is ∙ c.requires.table),
      c.table.invariant,
      λ s h sized at small.
          let r =
          learns c.join_seat.new.seat.id new.0 s.views (ap (λ (m : Me ℕ View). m.0.keeps) e.2 ∙ c.self.invariant.keeps) h
          at in
          (new.0, keeps, tt, r.0, (record { same = refl; legal = r.1; told = r.2; held = r.3 })),
    )
