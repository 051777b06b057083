use Rattle.std.proofs.Common.{◌≡◌, take}
use Rattle.std.specs.List.{sum_by}
use Rattle.lane_logs.specs.Stand.{draws_of_call}
use Rattle.lane_turns.proofs.log_rooms.draws_of_calls.Given as goal

abbrev pub invariant-loop-act : goal.invariant-loop-act
invariant-loop-act l = l.draws ≡ sum_by (draws_of_call l.script) (take l.act-index l.acts)
