-- What a worker has done.
use Rattle.std.specs.Prelude.{ℕ}

-- how many handlers it has executed
pub record Work : Type 0 where
  pub executed : ℕ
