use Rattle.history_laws.proofs.PromiseLemmas.{keeps}
use Rattle.history_laws.proofs.law.legal_histories_keep_promise.Goals as goal

pub returns : goal.returns
returns c = keeps
