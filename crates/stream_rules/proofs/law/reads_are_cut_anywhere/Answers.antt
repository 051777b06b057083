use Rattle.stream_rules.proofs.CuttingLemmas.{reads-go_on, reads-in_pieces}
use Rattle.stream_rules.proofs.QueueCuttingLemmas.{queues-go_on}
use Rattle.stream_rules.proofs.law.reads_are_cut_anywhere.Goals as goal

pub returns-clause-go_on : goal.returns-clause-go_on
returns-clause-go_on c = reads-go_on

pub returns-clause-in_pieces : goal.returns-clause-in_pieces
returns-clause-in_pieces c = reads-in_pieces

pub returns-clause-queues_go_on : goal.returns-clause-queues_go_on
returns-clause-queues_go_on c = queues-go_on
