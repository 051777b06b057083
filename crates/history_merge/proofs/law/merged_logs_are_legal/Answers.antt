use Rattle.history_merge.proofs.InductionLemmas.{merged_is_legal}
use Rattle.history_merge.proofs.law.merged_logs_are_legal.Goals as goal

pub returns : goal.returns
returns c = λ names logs events well logged. merged_is_legal names logs well logged events
