use Rattle.std.proofs.Common.{List, reverse}
use Rattle.std.specs.List.{All}
use Rattle.run_lines.specs.declared.line.Line.{Line}
use Rattle.run_rules.specs.Legal.{IsLegalSoFar}
use Rattle.run_orders.specs.Laws.{NeverOverlaps}
use Rattle.run_orders.specs.Orders.{plain}
use Rattle.run_forced.specs.Events.{AreEvents}
use Rattle.run_forced.proofs.finding.find_ordered.Given as goal

abbrev pub invariant-loop-thing : goal.invariant-loop-thing
invariant-loop-thing l =
    (run : List Line) → IsLegalSoFar plain run → AreEvents run (reverse l.events) → All (NeverOverlaps run) l.ordered.items
