use Rattle.history_merge.proofs.AbsentLemmas.{unfound_are_absent}
use Rattle.history_merge.proofs.law.unfound_are_absent.Goals as goal

pub returns : goal.returns
returns c = unfound_are_absent
