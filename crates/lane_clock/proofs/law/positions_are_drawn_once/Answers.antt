use Rattle.lane_clock.proofs.LawLemmas.{positions_are_once}
use Rattle.lane_clock.proofs.law.positions_are_drawn_once.Goals as goal

pub returns : goal.returns
returns c = positions_are_once
