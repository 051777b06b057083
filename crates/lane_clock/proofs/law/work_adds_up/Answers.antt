use Rattle.lane_clock.proofs.LawLemmas.{work_adds_up}
use Rattle.lane_clock.proofs.law.work_adds_up.Goals as goal

pub returns : goal.returns
returns c = work_adds_up
