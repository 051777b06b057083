use Rattle.lane_clock.proofs.HistoryLemmas.{draws_change_parts}
use Rattle.lane_clock.proofs.law.draws_change_parts.Goals as goal

pub returns : goal.returns
returns c = draws_change_parts
