use Rattle.std.proofs.Common.{◌≡◌, ◌++◌, drop, map, take}
use Rattle.chat_handlers.specs.Rooms.{one_less}
use Rattle.chat_handlers.proofs.room.count_down.Given as goal

-- those that are counted stand behind the others
abbrev pub invariant-loop : goal.invariant-loop
invariant-loop l = l.members.items
    ≡ drop l.counter l.initial.members.items ++ map (one_less l.stream l.now) (take l.counter l.initial.members.items)
