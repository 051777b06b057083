use Rattle.std.proofs.Common.{None}
use Rattle.lane_turns.proofs.LogRoomLemmas.{acts_few, acts_known}
use Rattle.lane_turns.proofs.log_rooms.opening_draws.Goals as goal

pub draws_of_calls-requires-clause-known : goal.draws_of_calls-requires-clause-known
draws_of_calls-requires-clause-known c =
    acts_known c.args.script.now None c.opening.result.now c.opening.ensures

pub draws_of_calls-requires-clause-few : goal.draws_of_calls-requires-clause-few
draws_of_calls-requires-clause-few c =
    acts_few c.args.script.now None c.opening.result.now c.opening.ensures
