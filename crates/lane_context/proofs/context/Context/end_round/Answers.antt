use Rattle.lane_context.proofs.context.Context.end_round.Goals as goal

pub returns-clause-ended : goal.returns-clause-ended
returns-clause-ended g c = c.close_bench.ensures.ended.ended

pub returns-clause-knows : goal.returns-clause-knows
returns-clause-knows g c = c.close_bench.ensures.ended.knows

pub returns-clause-came : goal.returns-clause-came
returns-clause-came g c = c.close_bench.ensures.ended.came

pub returns-clause-faultless : goal.returns-clause-faultless
returns-clause-faultless g c = c.close_bench.ensures.ended.none

pub returns-clause-ran : goal.returns-clause-ran
returns-clause-ran g c = c.close_bench.ensures.ended.ran

pub returns-clause-others : goal.returns-clause-others
returns-clause-others g c = c.close_bench.ensures.ended.others

pub returns-clause-rounds : goal.returns-clause-rounds
returns-clause-rounds g c = c.close_bench.ensures.ended.rounds

pub returns-clause-logs : goal.returns-clause-logs
returns-clause-logs g c = c.close_bench.ensures.ended.logs

pub returns-clause-remember : goal.returns-clause-remember
returns-clause-remember g c = c.close_bench.ensures.ended.remember

pub returns-clause-met : goal.returns-clause-met
returns-clause-met g c = c.close_bench.ensures.ended.met
