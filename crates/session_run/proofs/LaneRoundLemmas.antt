-- The workers of a round, on a context without a lock.
use Rattle.std.proofs.Common.{◌≡◌, ℕ, zero, suc, ◌≤◌, List, [], ◌∷◌, Some, arith, subst}
use Rattle.std.specs.Prelude.{max, slice_get}
use Rattle.session_script.specs.declared.round.Round.{Round}
use Rattle.lane_logs.specs.SeatNumbers.{most_workers}

-- a round has no more workers than the greatest one
pub within_most : (rounds : List Round) (at : ℕ) (round : Round) → slice_get rounds at ≡ Some round →
    round.workers ≤ most_workers rounds
within_most [] at round is = absurd (cc is)
within_most (first ∷ rounds) zero round is =
    let same : first ≡ round = cc is in
    subst (λ round. round.workers ≤ max first.workers (most_workers rounds)) same (omega arith)
within_most (first ∷ rounds) (suc at) round is =
    let rest = within_most rounds at round is in
    omega (arith, rest)
