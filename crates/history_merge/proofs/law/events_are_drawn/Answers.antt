use Rattle.history_merge.proofs.DrawLawLemmas.{ends_are_answered, history_is_drawn, logs_are_drawn}
use Rattle.history_merge.proofs.law.events_are_drawn.Goals as goal

pub returns : goal.returns
returns c = record { logs = logs_are_drawn; history = history_is_drawn; ends = ends_are_answered }
