use Rattle.run_lines.proofs.RunLemmas.{entries_are_unique}
use Rattle.run_lines.proofs.law.entries_are_unique.Goals as goal

pub returns : goal.returns
returns c = entries_are_unique
