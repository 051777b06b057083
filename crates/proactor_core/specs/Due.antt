-- What has completed and wasn't told yet.
use Rattle.std.specs.Prelude.{ℕ, ◌-◌, List, ◌++◌, length}
use Rattle.stream_rules.specs.declared.queue.Completion.{Completion}

-- the completions that are to be told, in order, and how many more there is room for
pub record Due : Type 0 where
  pub coming : List Completion
  pub spare : ℕ

-- these are to be told after the others
abbrev pub listed : List Completion → Due → Due
listed completed due = record {
  coming = due.coming ++ completed;
  spare = due.spare - length completed;
}
