use Rattle.strand_core.proofs.FitLemmas.{executions_fit}
use Rattle.strand_core.proofs.RoomLemmas.{executions_keep_room}
use Rattle.strand_core.proofs.law.executions_keep_room.Goals as goal

pub returns-clause-fit : goal.returns-clause-fit
returns-clause-fit c = executions_fit

pub returns-clause-kept : goal.returns-clause-kept
returns-clause-kept c = executions_keep_room
