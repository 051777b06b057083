-- Work guards: while one is out, the context isn't out of work.
use Rattle.std.specs.Prelude.{ℕ, ◌+◌, ◌-◌, nat_lt, Bool}
use Rattle.io_rules.specs.State.{ContextState}
use Rattle.io_scheduler.specs.declared.counts.Counts.{Counts}

-- so many may be out
abbrev pub most_guards : ℕ
most_guards = 18446744073709551615

-- one more may be
abbrev pub may_hold : ContextState → Bool
may_hold s = nat_lt s.holds most_guards

abbrev pub counts_held : Counts → Counts
counts_held c = record c { holds = c.holds + 1 }

abbrev pub counts_released : Counts → Counts
counts_released c = record c { holds = c.holds - 1 }
