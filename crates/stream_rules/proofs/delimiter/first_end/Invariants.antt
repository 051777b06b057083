use Rattle.std.proofs.Common.{◌≡◌, drop}
use Rattle.stream_rules.specs.Delimiter.{first_end}
use Rattle.stream_rules.proofs.DelimiterLemmas.{behind}
use Rattle.stream_rules.proofs.delimiter.first_end.Given as goal

abbrev pub invariant-loop-start : goal.invariant-loop-start
invariant-loop-start l =
    first_end l.delimiter l.bytes ≡ behind l.start (first_end l.delimiter (drop l.start l.bytes))
