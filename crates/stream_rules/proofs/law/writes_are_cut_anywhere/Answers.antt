use Rattle.stream_rules.proofs.CuttingLemmas.{writes-go_on, writes-in_pieces}
use Rattle.stream_rules.proofs.law.writes_are_cut_anywhere.Goals as goal

pub returns-clause-go_on : goal.returns-clause-go_on
returns-clause-go_on c = writes-go_on

pub returns-clause-in_pieces : goal.returns-clause-in_pieces
returns-clause-in_pieces c = writes-in_pieces
