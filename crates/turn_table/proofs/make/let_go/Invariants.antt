use Rattle.std.proofs.Common.{◌≡◌, ℕ, ◌+◌, ◌-◌, ◌<◌, ◌≤◌, false, get_or}
use Rattle.std.specs.Mem.Slots.{slots_items, slots_filled, slots_len}
use Rattle.std.specs.Mem.Slots.Ownership.{Filled}
use Rattle.turn_table.proofs.make.let_go.Given as goal

abbrev pub invariant-loop-lane : goal.invariant-loop-lane
invariant-loop-lane g l =
    (slots_items l.closed.slots ≡ slots_items l.initial.closed.slots) × (slots_len l.closed.slots ≡ l.lanes + 1)
    × Filled (slots_filled l.closed.slots) l.lane l.lanes
    × ((k : ℕ) → k < l.lane → get_or (slots_filled l.closed.slots) k false ≡ false)
    × (get_or (slots_filled l.closed.slots) l.lanes false ≡ false) × (l.lane ≤ l.lanes)

abbrev pub decreases-loop-lane : goal.decreases-loop-lane
decreases-loop-lane g l = l.lanes - l.lane
