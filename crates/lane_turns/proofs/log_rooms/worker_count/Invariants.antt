use Rattle.std.proofs.Common.{◌≡◌, ◌≤◌, drop}
use Rattle.std.specs.Prelude.{max}
use Rattle.lane_logs.specs.SeatNumbers.{most_workers}
use Rattle.lane_turns.proofs.log_rooms.worker_count.Given as goal

abbrev pub invariant-loop-round : goal.invariant-loop-round
invariant-loop-round l = record {
  so_far : max l.most (most_workers (drop l.round-index l.rounds)) ≡ most_workers l.rounds;
  few : l.most ≤ 255;
}
