use Rattle.history_merge.proofs.InductionLemmas.{merged_fits}
use Rattle.history_merge.proofs.law.merged_logs_fit.Goals as goal

pub returns : goal.returns
returns c = λ names logs well logged. merged_fits names logs well logged (c.logs_are_positioned.ensures names logs logged)
