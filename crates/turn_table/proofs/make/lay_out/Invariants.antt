use Rattle.std.proofs.Common.{◌≡◌, ◌+◌, ◌-◌, ◌≤◌, replicate, vec_capacity}
use Rattle.turn_table.specs.declared.place.TablePlace.TheVariants.{Empty}
use Rattle.turn_table.proofs.make.lay_out.Given as goal

abbrev pub invariant-loop-lane : goal.invariant-loop-lane
invariant-loop-lane g l =
    (l.lane ≤ l.lanes) × (l.places.items ≡ replicate l.lane Empty) × (l.lanes + 1 ≤ vec_capacity l.places)

abbrev pub decreases-loop-lane : goal.decreases-loop-lane
decreases-loop-lane g l = l.lanes - l.lane
