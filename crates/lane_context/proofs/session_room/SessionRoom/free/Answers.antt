use Rattle.lane_context.proofs.SettingOutLemmas.{has_all}
use Rattle.lane_context.proofs.session_room.SessionRoom.free.Goals as goal

pub close_held-requires-clause-turns : goal.close_held-requires-clause-turns
close_held-requires-clause-turns g c = has_all c.self.inside.turns c.self.inside.seat c.self.invariant.seat
