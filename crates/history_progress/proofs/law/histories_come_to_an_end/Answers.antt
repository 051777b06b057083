use Rattle.history_progress.proofs.EndLemmas.{comes_to_an_end}
use Rattle.history_progress.proofs.law.histories_come_to_an_end.Goals as goal

pub returns : goal.returns
returns c script events well legal = comes_to_an_end script well events legal
