use Rattle.history_laws.proofs.PromiseLemmas.{keeps}
use Rattle.history_laws.proofs.law.rounds_close_once.Goals as goal

pub returns : goal.returns
returns c script told events well legal = (keeps script told events well legal).closes_once
