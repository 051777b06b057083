use Rattle.ready_hints.proofs.HintLemmas.{puts}
use Rattle.ready_hints.proofs.hints.ReadyHints.hint.Goals as goal

pub push_as-requires-clause-rule : goal.push_as-requires-clause-rule
push_as-requires-clause-rule g c = λ n. puts n _ _ _ c.pass.invariant.part
