use Rattle.std.proofs.Common.{reverse}
use Rattle.run_witness.proofs.judging.judge.Goals as goal

pub returns-clause-exact : goal.returns-clause-exact
returns-clause-exact c = c.in_ok-judge_by.ensures (reverse c.args.run.now) c.in_ok-facts.ensures.known
