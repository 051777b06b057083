use Rattle.std.proofs.Common.{◌≡◌, ◌≤◌, take}
use Rattle.text_places.specs.Lines.{line_feeds}
use Rattle.text_places.proofs.lines.lines_in.Given as goal

abbrev pub invariant-loop-byte : goal.invariant-loop-byte
invariant-loop-byte l = record {
  counted : l.lines ≡ line_feeds (take l.byte-index l.text);
  few : l.lines ≤ l.byte-index;
}
