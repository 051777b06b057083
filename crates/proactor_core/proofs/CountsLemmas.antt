-- Counts that stand still at the end of 32 bits.
use Rattle.std.proofs.Common.{◌≡◌, ◌+◌, ◌-◌, ◌^◌, ℕ, arith}
use Rattle.std.specs.Prelude.{min}
use Rattle.proactor_core.specs.Counts.{within_32_bits}

-- two such counts, put together
pub within-sum : (x y : ℕ) → min (within_32_bits x + within_32_bits y) (2 ^ 32 - 1) ≡ within_32_bits (x + y)
within-sum x y = omega arith
