use Rattle.lane_clock.proofs.HistoryLemmas.{clocks_count_draws}
use Rattle.lane_clock.proofs.law.clocks_count_draws.Goals as goal

pub returns : goal.returns
returns c = clocks_count_draws
