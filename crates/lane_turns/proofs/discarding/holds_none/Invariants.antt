use Rattle.std.specs.Prelude.{◌≡◌, ◌<◌, ℕ, IsSome, true}
use Rattle.lane_map.specs.LaneNumbers.{home_lane}
use Rattle.session_script.specs.Script.{is_op}
use Rattle.lane_turns.specs.Discarding.{held_on}
use Rattle.lane_turns.proofs.discarding.holds_none.Given as goal

abbrev pub invariant-loop-op : goal.invariant-loop-op
invariant-loop-op g l =
    (op : ℕ) → op < l.op → is_op l.script op ≡ true →
    IsSome (held_on l.hands (home_lane l.script op) op) → ⊥
