-- What names a context.
use Rattle.std.specs.Prelude.{ℕ}
use Rattle.atomic_table.specs.Seated.{TableId}
use Rattle.io_rules.specs.declared.limits.Limits.{Limits}

-- into how many parts its ledger is cut: a worker has one
abbrev pub most_parts : ℕ
most_parts = 18446744073709551615

-- the table of its history, what it has room for, and the ledger of the handlers that were executed
pub record Naming : Type 0 where
  pub table : TableId
  pub limits : Limits
  pub name : ℕ
  pub parts : ℕ
