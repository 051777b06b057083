use Rattle.lane_turns.proofs.LogRoomLemmas.{rooms_fit}
use Rattle.lane_turns.proofs.log_rooms.rooms_fit.Goals as goal

pub returns : goal.returns
returns c = rooms_fit c.args.script.now c.scripts_are_well_formed.ensures
