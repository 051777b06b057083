use Rattle.std.proofs.Common.{◌≡◌, ◌-◌, ◌++◌, ◌≤◌, length, drop}
use Rattle.session_script.specs.Kinds.{decoded}
use Rattle.session_script.proofs.reader.field.decoded.Given as goal

abbrev pub invariant-loop-read : goal.invariant-loop-read
invariant-loop-read l = record {
  in_range : l.read ≤ length l.digits;
  read : l.bytes.items ++ decoded (drop l.read l.digits) ≡ decoded l.digits;
}

abbrev pub decreases-loop-read : goal.decreases-loop-read
decreases-loop-read l = length l.digits - l.read
