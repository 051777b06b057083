use Rattle.std.proofs.Common.{◌≡◌, take}
use Rattle.lane_clock.specs.Layout.{total}
use Rattle.lane_clock.specs.Rows.{cells_in, Starts}
use Rattle.lane_clock.proofs.plan.ClockPlan.make.Given as goal

abbrev pub invariant-loop-count : goal.invariant-loop-count
invariant-loop-count l = record {
  cells : cells_in l.rows.items ≡ take l.count-index l.cells;
  starts : Starts l.rows.items;
  start : l.start ≡ total (cells_in l.rows.items);
}
