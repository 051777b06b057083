use Rattle.history_progress.proofs.EndLemmas.{goes_on}
use Rattle.history_progress.proofs.law.no_history_is_stuck.Goals as goal

pub returns : goal.returns
returns c script told events well legal which = goes_on script well told events legal which
