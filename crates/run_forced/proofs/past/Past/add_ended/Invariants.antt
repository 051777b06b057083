use Rattle.std.proofs.Common.{◌≡◌, ◌≤◌, ℕ, List, length}
use Rattle.std.specs.List.{Contains}
use Rattle.std.specs.Prelude.{Some}
use Rattle.run_lines.specs.declared.line.Line.{Line}
use Rattle.run_orders.specs.Trees.{Spot, spot_at}
use Rattle.run_forced.specs.declared.turns.Ended.{Ended}
use Rattle.run_forced.specs.Known.{IsBefore}
use Rattle.run_forced.specs.Past.{HasFollowed}
use Rattle.run_forced.specs.Turns.{HasEnded, TakesTurn}
use Rattle.run_forced.proofs.past.Past.add_ended.Given as goal

abbrev pub invariant-loop-left : goal.invariant-loop-left
invariant-loop-left l =
    record {
      within : l.left ≤ length l.all;
      before : (run : List Line) (place strand : ℕ) (spot : Spot) → HasFollowed run place l.self → spot_at run place ≡ Some spot →
          TakesTurn spot l.op strand → ((ended : Ended) → Contains l.all ended → HasEnded run strand ended) →
          IsBefore run l.self.known place l.initial.clock → IsBefore run l.self.known place l.clock;
    }

abbrev pub decreases-loop-left : goal.decreases-loop-left
decreases-loop-left l = l.left
