use Rattle.run_verdict.proofs.run.judge_run.Goals as goal

pub returns-clause-says : goal.returns-clause-says
returns-clause-says g c = c.take_run.ensures.says c.args.level c.new-judge.ensures c.in_ok-reader.ensures.held
