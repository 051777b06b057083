-- Counts of faults.
use Rattle.std.proofs.Common.{ℕ, arith}
use Rattle.asio_types.specs.Faults.{Rose}
use Rattle.text_io.specs.Counts.{Stood}

-- a count that stood didn't rise
pub stood : (before after : ℕ) → Stood before after → Rose before after → ⊥
stood before after still rose = absurd (omega (arith, rose (omega (arith, still.0)), still.1))
