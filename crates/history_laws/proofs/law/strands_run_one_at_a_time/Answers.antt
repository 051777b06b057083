use Rattle.history_laws.proofs.PromiseLemmas.{keeps}
use Rattle.history_laws.proofs.law.strands_run_one_at_a_time.Goals as goal

pub returns : goal.returns
returns c script told events well legal = (keeps script told events well legal).alone
