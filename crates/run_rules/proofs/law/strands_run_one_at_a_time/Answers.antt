use Rattle.run_rules.proofs.StrandLemmas.{holders_agree}
use Rattle.run_rules.proofs.law.strands_run_one_at_a_time.Goals as goal

pub returns : goal.returns
returns c = λ level past. holders_agree level past
