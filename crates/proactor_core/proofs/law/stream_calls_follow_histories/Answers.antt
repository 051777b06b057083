use Rattle.proactor_core.proofs.WorksLemmas.{follow}
use Rattle.proactor_core.proofs.law.stream_calls_follow_histories.Goals as goal

pub returns : goal.returns
returns c = follow
