use Rattle.std.proofs.Common.{◌≤◌}
use Rattle.session_script.proofs.JudgingLemmas.{judged_holds}
use Rattle.session_script.proofs.reader.field.bounded.Goals as goal

pub returns-clause-in_range : goal.returns-clause-in_range
returns-clause-in_range c =
    judged_holds (λ value. value ≤ c.args.most) _ c.judged.result c.judged.ensures.passed c.within.ensures.in_range
