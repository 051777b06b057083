use Rattle.ready_hints.proofs.HintLemmas.{merges}
use Rattle.ready_hints.proofs.hints.ReadyHints.gather.Goals as goal

pub absorb-requires-clause-rule : goal.absorb-requires-clause-rule
absorb-requires-clause-rule c = merges _ _ _ _ c.pass.invariant.part
