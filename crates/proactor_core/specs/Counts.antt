-- Counts that stand still at the end of their type.
use Rattle.std.specs.Prelude.{ℕ, ◌-◌, ◌^◌, min}

abbrev pub within_32_bits : ℕ → ℕ
within_32_bits count = min count (2 ^ 32 - 1)
