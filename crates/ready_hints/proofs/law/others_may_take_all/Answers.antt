use Rattle.ready_hints.proofs.OthersLemmas.{others_may_take_all}
use Rattle.ready_hints.proofs.law.others_may_take_all.Goals as goal

pub returns : goal.returns
returns c = others_may_take_all
