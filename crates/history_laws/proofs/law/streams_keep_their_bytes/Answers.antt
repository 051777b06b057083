use Rattle.std.proofs.Common.{refl, true}
use Rattle.history_laws.proofs.PromiseLemmas.{keeps}
use Rattle.history_laws.proofs.law.streams_keep_their_bytes.Goals as goal

pub returns : goal.returns
returns c script events well legal = (keeps script true events well legal).streams refl
