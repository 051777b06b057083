-- What a call of `poll` reports.
use Rattle.std.specs.Prelude.{ℕ}

-- the most edges of one call
abbrev pub most_edges : ℕ
most_edges = 256
