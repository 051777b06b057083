use Rattle.std.proofs.Common.{◌≡◌, ◌<◌, ℕ, get_or, length}
use Rattle.history_book.specs.QueueRoom.{count_passing, is_on}
use Rattle.history_book.proofs.queue_room.rooms_of.Given as goal

abbrev pub invariant-loop-act : goal.invariant-loop-act
invariant-loop-act l = record {
  count : length l.rooms.items ≡ l.streams;
  each : (stream : ℕ) → stream < l.streams →
      get_or l.rooms.items stream 0 ≡ count_passing (is_on l.script stream) l.act;
}
