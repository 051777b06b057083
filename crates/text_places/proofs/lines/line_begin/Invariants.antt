use Rattle.std.proofs.Common.{◌≡◌, ◌+◌, ◌≤◌, take}
use Rattle.text_places.specs.Lines.{line_feeds}
use Rattle.text_places.proofs.lines.line_begin.Given as goal

abbrev pub invariant-loop-at : goal.invariant-loop-at
invariant-loop-at l = record {
  counted : l.line ≡ line_feeds (take l.at l.text) + 1;
  few : l.line ≤ l.at + 1;
}
