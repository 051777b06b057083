use Rattle.std.proofs.Common.{arith}
use Rattle.history_book.specs.QueueRoom.{is_on}
use Rattle.history_book.proofs.QueueRoomLemmas.{count-within}
use Rattle.history_book.proofs.queue_room.rooms_of.Goals as goal

pub count_one-requires : goal.count_one-requires
count_one-requires c = λ place b.
    let is = c.loop-act.invariant.each place (omega (arith, b, c.loop-act.invariant.count)) in
    let most = count-within (is_on c.args.script.now place) c.loop-act.act in
    omega (arith, is, most, c.acts-act-end.ensures.limit, c.loop-act-test.true)
