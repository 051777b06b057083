use Rattle.lane_context.proofs.context.Context.meet_around.Goals as goal

pub returns-clause-worker_knew : goal.returns-clause-worker_knew
returns-clause-worker_knew g c = λ k one at knows. c.meet_all.ensures.worker_knew k one at knows
