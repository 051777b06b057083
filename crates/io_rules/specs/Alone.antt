-- Handlers of one strand never execute at the same time (Asio reference, strand).
use Rattle.std.specs.Prelude.{◌≡◌, ℕ, List, ◌∷◌}
use Rattle.io_rules.specs.declared.event.Event.{Event}
use Rattle.io_rules.specs.declared.event.Event.TheVariants as event
use Rattle.io_rules.specs.declared.limits.Limits.{Limits}
use Rattle.io_rules.specs.declared.name.Lane.TheVariants as lane
use Rattle.io_rules.specs.declared.name.Name.{Name}
use Rattle.io_rules.specs.declared.spares.Spares.{Spares}
use Rattle.io_rules.specs.History.{begins, ends, lane_in, times}
use Rattle.io_rules.specs.Legal.{IsLegal}

-- where a handler of a strand begins, each handler of it that has begun has ended
abbrev pub AloneOnStrand : Type 0
AloneOnStrand =
    (limits : Limits) (past : List Event) (op other : ℕ) (spares : Spares) (strand : Name) →
    IsLegal limits (event.Begun op spares ∷ past) → lane_in past op ≡ lane.Strand strand →
    lane_in past other ≡ lane.Strand strand →
    times (begins other) past ≡ times (ends other) past
