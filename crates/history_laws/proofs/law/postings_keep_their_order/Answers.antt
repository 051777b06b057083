use Rattle.history_laws.proofs.PromiseLemmas.{keeps}
use Rattle.history_laws.proofs.law.postings_keep_their_order.Goals as goal

pub returns : goal.returns
returns c script told events well legal = (keeps script told events well legal).in_order
