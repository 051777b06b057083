use Rattle.std.proofs.Common.{◌≡◌, List, reverse}
use Rattle.std.specs.Vec.{vec_len}
use Rattle.run_lines.specs.declared.line.Line.{Line}
use Rattle.run_rules.specs.Legal.{IsLegalSoFar}
use Rattle.run_orders.specs.Orders.{plain}
use Rattle.run_joins.specs.Joining.{IsLeft}
use Rattle.run_joins.specs.Notes.{AreNotes}
use Rattle.run_joins.proofs.joining.find_joined.Given as goal

abbrev pub invariant-loop-note : goal.invariant-loop-note
invariant-loop-note l = (l.joined.join ≡ l.fn.join)
    × ((run : List Line) → IsLegalSoFar plain run → AreNotes run (reverse l.fn.notes.items) → IsLeft run l.left.items l.joined)

abbrev pub decreases-loop-note : goal.decreases-loop-note
decreases-loop-note l = vec_len l.left
