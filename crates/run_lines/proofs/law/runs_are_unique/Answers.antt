use Rattle.run_lines.proofs.RunLemmas.{runs_are_unique}
use Rattle.run_lines.proofs.law.runs_are_unique.Goals as goal

pub returns : goal.returns
returns c = runs_are_unique
