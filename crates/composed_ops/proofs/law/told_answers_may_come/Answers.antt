use Rattle.composed_ops.proofs.ReactorLemmas.{held-consumed, reads-answered, writes-answered}
use Rattle.composed_ops.proofs.law.told_answers_may_come.Goals as goal

pub returns-clause-reads : goal.returns-clause-reads
returns-clause-reads c = reads-answered

pub returns-clause-writes : goal.returns-clause-writes
returns-clause-writes c = writes-answered

pub returns-clause-held : goal.returns-clause-held
returns-clause-held c = held-consumed
