use Rattle.history_laws.proofs.OverlapLemmas.{overlap}
use Rattle.history_laws.proofs.law.strands_may_overlap.Goals as goal

pub returns : goal.returns
returns c = overlap
