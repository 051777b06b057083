use Rattle.composed_ops.proofs.FeedingLemmas.{machines-complete, machines-go_on}
use Rattle.composed_ops.proofs.RunLemmas.{holding-keeps, machines-begin, machines-finish, machines-wait}
use Rattle.composed_ops.proofs.law.machines_follow_the_rules.Goals as goal

pub returns-clause-begin : goal.returns-clause-begin
returns-clause-begin c = machines-begin

pub returns-clause-go_on : goal.returns-clause-go_on
returns-clause-go_on c = machines-go_on

pub returns-clause-complete : goal.returns-clause-complete
returns-clause-complete c = machines-complete

pub returns-clause-finish : goal.returns-clause-finish
returns-clause-finish c = machines-finish

pub returns-clause-wait : goal.returns-clause-wait
returns-clause-wait c = machines-wait

pub returns-clause-holding : goal.returns-clause-holding
returns-clause-holding c = holding-keeps
