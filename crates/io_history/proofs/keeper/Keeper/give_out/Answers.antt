use Rattle.std.proofs.Common.{sym, ◌∙◌}
use Rattle.io_history.proofs.RuleLemmas.{claims}
use Rattle.io_history.proofs.keeper.Keeper.give_out.Goals as goal

pub split_seat-requires : goal.split_seat-requires
split_seat-requires g c = (
  c.self.invariant.here ∙ sym (c.table.view_is ∙ c.requires.table),
  c.table.invariant,
  λ s h at.
      claims c.self.inside.seat.id c.self.inside.seat.me.0 s.views c.self.invariant.keeps h at,
)
