use Rattle.std.proofs.Common.{true, arith}
use Rattle.lane_turns.proofs.LogRoomLemmas.{room_most}
use Rattle.lane_context.proofs.call_rooms.calls_at_most.Goals as goal

pub returns : goal.returns
returns c =
    let most = room_most c.args.script.now (λ op. true) in omega (arith, most, c.acts.ensures.count)
