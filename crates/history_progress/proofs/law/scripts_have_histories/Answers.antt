use Rattle.history_progress.proofs.EndLemmas.{has_history}
use Rattle.history_progress.proofs.law.scripts_have_histories.Goals as goal

pub returns : goal.returns
returns c script told well releases = has_history script well told releases
