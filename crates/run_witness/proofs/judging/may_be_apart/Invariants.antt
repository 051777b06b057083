use Rattle.std.proofs.Common.{◌≡◌, take}
use Rattle.std.specs.Prelude.{true}
use Rattle.std.specs.List.{All}
use Rattle.run_witness.specs.Executions.{is_lent}
use Rattle.run_witness.proofs.judging.may_be_apart.Given as goal

abbrev pub invariant-loop-op : goal.invariant-loop-op
invariant-loop-op l = All (λ op. is_lent l.facts.executions op ≡ true) (take l.op-index l.apart)
