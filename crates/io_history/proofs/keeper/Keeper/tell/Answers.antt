use Rattle.std.proofs.Common.{sym, ◌∙◌}
use Rattle.io_history.proofs.RuleLemmas.{tells}
use Rattle.io_history.proofs.keeper.Keeper.tell.Goals as goal

pub split_seat-requires : goal.split_seat-requires
split_seat-requires g c = (
  c.self.invariant.here ∙ sym (c.table.view_is ∙ c.requires.table),
  c.table.invariant,
  λ s h at.
      tells c.self.inside.seat.id c.self.inside.seat.me.0 s.views c.self.invariant.keeps h at,
)
