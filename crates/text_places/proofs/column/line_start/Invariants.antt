use Rattle.text_places.specs.Column.{IsLineStart}
use Rattle.text_places.proofs.column.line_start.Given as goal

abbrev pub invariant-loop-i : goal.invariant-loop-i
invariant-loop-i l = IsLineStart l.text l.i l.begin
