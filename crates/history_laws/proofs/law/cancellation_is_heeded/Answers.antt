use Rattle.history_laws.proofs.PromiseLemmas.{keeps}
use Rattle.history_laws.proofs.law.cancellation_is_heeded.Goals as goal

pub returns : goal.returns
returns c script told events well legal = (keeps script told events well legal).cancelled
