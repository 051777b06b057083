use Rattle.std.proofs.Common.{ap, ◌∙◌}
use Rattle.std.specs.Prelude.{is_some}
use Rattle.run_verdict.proofs.owing.waits.Goals as goal

pub returns : goal.returns
returns c = λ level past judged. c.is_some.ensures ∙ ap is_some (c.waiter.ensures past (c.checker.ensures level past judged))
