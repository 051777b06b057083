use Rattle.std.proofs.Common.{◌≡◌, ◌≤◌, List, length, reverse, take}
use Rattle.run_lines.specs.declared.line.Line.{Line}
use Rattle.run_rules.specs.Legal.{IsLegalSoFar}
use Rattle.run_orders.specs.Orders.{plain}
use Rattle.run_joins.specs.Handing.{IsLeftOf}
use Rattle.run_joins.specs.Notes.{AreNotes}
use Rattle.run_joins.proofs.handing.is_handed_over.Given as goal

abbrev pub invariant-loop-left : goal.invariant-loop-left
invariant-loop-left l =
    record {
      thing : l.chain.thing ≡ l.thing;
      within : l.left ≤ length l.notes;
      chain : (run : List Line) → IsLegalSoFar plain run → AreNotes run (reverse l.notes) → IsLeftOf run (take l.left l.notes) l.chain;
    }

abbrev pub decreases-loop-left : goal.decreases-loop-left
decreases-loop-left l = l.left
