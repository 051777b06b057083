use Rattle.history_merge.proofs.AmongLemmas.{stays_legal}
use Rattle.history_merge.proofs.law.executions_stay_legal.Goals as goal

pub returns : goal.returns
returns c = λ script told s op code size calls own all well. stays_legal script well told s op code size calls own all
