use Rattle.std.proofs.Common.{◌≡◌, ℕ, false, subst}
use Rattle.io_strands.specs.Cell.{is_there}
use Rattle.io_scheduler.specs.Shown.{cell_at}
use Rattle.io_scheduler.proofs.FirstLemmas.{last_idle, rest_idle}
use Rattle.io_scheduler.proofs.making.destroy_all.Goals as goal

pub destroy-requires : goal.destroy-requires
destroy-requires g c =
    last_idle _ _
    (subst (λ xs. (place : ℕ) → is_there (cell_at xs place) ≡ false) c.in-Some.ensures.items c.loop-strand.invariant)

pub loop-strand-preserved : goal.loop-strand-preserved
loop-strand-preserved g c =
    rest_idle _ c.in-Some.strand
    (subst (λ xs. (place : ℕ) → is_there (cell_at xs place) ≡ false) c.in-Some.ensures.items c.loop-strand.invariant)
