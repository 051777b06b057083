-- How often keys were counted.
use Rattle.std.specs.Prelude.{ℕ, Bool}
use Rattle.std.specs.HashMap.{get}
use Rattle.std.specs.Option.{unwrap_or}
use Rattle.run_check.specs.declared.counts.Counts.{Counts}

abbrev pub count_of : {K : Type 0} → (K → K → Bool) → Counts K → K → ℕ
count_of eq kept key = unwrap_or (get eq kept.numbers key) 0
