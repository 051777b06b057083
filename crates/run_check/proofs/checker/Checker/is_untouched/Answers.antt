use Rattle.run_rules.specs.Takings.{taken}
use Rattle.run_check.proofs.checker.Checker.is_untouched.Goals as goal

pub returns : goal.returns
returns c = λ past after. c.is_alone.ensures (taken past) after.counted
