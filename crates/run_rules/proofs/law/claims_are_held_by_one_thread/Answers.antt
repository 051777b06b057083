use Rattle.run_rules.proofs.TakingLemmas.{takers_agree}
use Rattle.run_rules.proofs.law.claims_are_held_by_one_thread.Goals as goal

pub returns : goal.returns
returns c = λ level past. takers_agree level past
