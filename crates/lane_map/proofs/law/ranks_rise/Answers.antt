use Rattle.lane_map.proofs.RankLemmas.{ranks_fit, ranks_rise}
use Rattle.lane_map.proofs.law.ranks_rise.Goals as goal

pub returns-clause-rise : goal.returns-clause-rise
returns-clause-rise c = ranks_rise

pub returns-clause-fit : goal.returns-clause-fit
returns-clause-fit c = ranks_fit
