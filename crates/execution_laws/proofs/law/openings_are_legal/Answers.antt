use Rattle.execution_laws.proofs.OpenedLemmas.{is_legal_opening}
use Rattle.execution_laws.proofs.law.openings_are_legal.Goals as goal

pub returns : goal.returns
returns c = is_legal_opening
