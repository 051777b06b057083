use Rattle.lane_clock.proofs.LawLemmas.{holds_between}
use Rattle.lane_clock.proofs.law.rule_holds_between_steps.Goals as goal

pub returns : goal.returns
returns c = holds_between
