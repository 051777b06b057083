use Rattle.run_verdict.proofs.VerdictLemmas.{at_level}
use Rattle.run_verdict.proofs.verdict.verdict_on.Goals as goal

pub returns : goal.returns
returns c = at_level c.args.level c.args.lines.now c.new-judge.result c.judge_all.result c.new-judge.ensures c.judge_all.ensures
