use Rattle.std.proofs.Common.{arith, le-ltb, length, lt-ltb, refl}
use Rattle.chat_handlers.specs.Serving.Admits.{refuses}
use Rattle.chat_handlers.proofs.serving.admit_if.Goals as goal

pub admit-requires : goal.admit-requires
admit-requires c = lt-ltb (length c.args.room.now.members.items) 64 (omega (arith, c.args.room.now.members.ok))

pub returns-else-len-lt-MOST_MEMBERS-clause-admits : goal.returns-else-len-lt-MOST_MEMBERS-clause-admits
returns-else-len-lt-MOST_MEMBERS-clause-admits c =
    refuses (le-ltb (length c.args.room.now.members.items) 64 (omega (arith, c.args.room.now.members.ok)))
    (record { refuses = c.refuse.ensures.refuses; same = record { are = refl; word = refl; next = refl; alloc = refl; counted = refl } })
