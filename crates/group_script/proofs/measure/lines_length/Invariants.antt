use Rattle.std.proofs.Common.{◌≡◌, ◌≤◌, ◌*◌, take}
use Rattle.std.specs.List.{All, flat_map}
use Rattle.session_script.specs.Spelling.{line_words}
use Rattle.session_script.specs.Writable.{IsFedBytes}
use Rattle.group_script.specs.Measure.{span}
use Rattle.group_script.proofs.measure.lines_length.Given as goal

abbrev pub invariant-loop-line : goal.invariant-loop-line
invariant-loop-line l = record {
  length : l.total ≡ span (flat_map line_words (take l.line-index l.lines));
  bound : l.total ≤ 33100 * l.line-index;
  fed : All (λ line. IsFedBytes line.what) (take l.line-index l.lines);
}
