use Rattle.trace_check.proofs.VerdictLemmas.{one_verdict}
use Rattle.trace_check.proofs.law.verdicts_are_unique.Goals as goal

pub returns : goal.returns
returns c = one_verdict
