use Rattle.std.proofs.Common.{◌≡◌, true}
use Rattle.session_script.specs.Grammar.{are_released}
use Rattle.session_script.specs.Outcome.{entries_of}
use Rattle.session_script.proofs.reader.script.are_released.Given as goal

abbrev pub invariant-loop-guard : goal.invariant-loop-guard
invariant-loop-guard l = are_released l.guard (entries_of l.entries) ≡ true
