use Rattle.std.proofs.Common.{◌≤◌, ◌-◌, List, length, reverse}
use Rattle.run_lines.specs.declared.line.Line.{Line}
use Rattle.run_rules.specs.Legal.{IsLegalSoFar}
use Rattle.run_orders.specs.Orders.{plain}
use Rattle.run_forced.specs.Events.{AreEvents}
use Rattle.run_forced.specs.Finding.{IsFollowed}
use Rattle.run_forced.proofs.finding.claims_of.Given as goal

abbrev pub invariant-loop-at : goal.invariant-loop-at
invariant-loop-at l =
    record {
      within : l.at ≤ length l.events;
      followed : (run : List Line) → IsLegalSoFar plain run → AreEvents run (reverse l.events) → IsFollowed run l.at l.following;
    }

abbrev pub decreases-loop-at : goal.decreases-loop-at
decreases-loop-at l = length l.events - l.at
