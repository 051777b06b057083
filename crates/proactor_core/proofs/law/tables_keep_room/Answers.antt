use Rattle.proactor_core.proofs.RoomLemmas.{keeps-room}
use Rattle.proactor_core.proofs.law.tables_keep_room.Goals as goal

pub returns : goal.returns
returns c = keeps-room
