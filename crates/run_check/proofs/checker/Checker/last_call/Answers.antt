use Rattle.std.proofs.Common.{◌∙◌}
use Rattle.run_check.proofs.RuleLemmas.{kept_last}
use Rattle.run_check.proofs.checker.Checker.last_call.Goals as goal

pub returns : goal.returns
returns c = λ past after. c.of.ensures ∙ kept_last past c.args.self.now after c.args.thread c.frame-frame.result
    c.frame-frame.ensures
