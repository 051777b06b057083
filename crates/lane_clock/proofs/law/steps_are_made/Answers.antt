use Rattle.lane_clock.proofs.HistoryLemmas.{steps_are_made}
use Rattle.lane_clock.proofs.law.steps_are_made.Goals as goal

pub returns : goal.returns
returns c = steps_are_made
