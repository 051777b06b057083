use Rattle.std.proofs.Common.{arith}
use Rattle.history_book.proofs.RoomLemmas.{sum-sizes}
use Rattle.history_book.proofs.reactor_half.ReactorWorks.pending_count.Goals as goal

pub count_in-requires : goal.count_in-requires
count_in-requires c =
    let s = c.self.inside in
    let same = sum-sizes s.script.now s.queues.items in
    rw c.as_slice.ensures.value (omega (arith, c.self.invariant.pending, c.self.invariant.waits_room, s.waits.small))
