use Rattle.std.proofs.Common.{arith}
use Rattle.chat_handlers.specs.Rooms.{one_less}
use Rattle.chat_handlers.proofs.RoomLemmas.{counted_next}
use Rattle.chat_handlers.proofs.room.count_down.Goals as goal

pub loop-preserved : goal.loop-preserved
loop-preserved c =
    counted_next (one_less c.args.stream c.args.now) c.args.members.now.items c.loop.members.items _ c.loop.counter
    (omega (arith, c.args.members.now.ok)) c.loop.invariant c.count_first_down.ensures
