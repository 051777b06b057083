use Rattle.lane_clock.proofs.LawLemmas.{changes_stand}
use Rattle.lane_clock.proofs.law.changes_stand.Goals as goal

pub returns : goal.returns
returns c = changes_stand
