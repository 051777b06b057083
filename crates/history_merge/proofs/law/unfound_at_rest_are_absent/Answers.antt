use Rattle.history_merge.proofs.UnfoundLemmas.{unfound_at_rest_are_absent}
use Rattle.history_merge.proofs.law.unfound_at_rest_are_absent.Goals as goal

pub returns : goal.returns
returns c = unfound_at_rest_are_absent
