use Rattle.std.proofs.Common.{◌≡◌, ◌+◌, ◌-◌, ◌≤◌, length, drop}
use Rattle.std.specs.List.{prefix_len}
use Rattle.session_script.specs.Grammar.{is_text}
use Rattle.session_script.proofs.reader.text_len.Given as goal

abbrev pub invariant-loop-count : goal.invariant-loop-count
invariant-loop-count l = record {
  in_range : l.count ≤ length l.bytes;
  so_far : l.count + prefix_len is_text (drop l.count l.bytes) ≡ prefix_len is_text l.bytes;
}

abbrev pub decreases-loop-count : goal.decreases-loop-count
decreases-loop-count l = length l.bytes - l.count
