use Rattle.run_lines.proofs.RunLemmas.{entries_stand_on_one_line}
use Rattle.run_lines.proofs.law.entries_stand_on_one_line.Goals as goal

pub returns : goal.returns
returns c = entries_stand_on_one_line
