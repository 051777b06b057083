use Rattle.std.proofs.Common.{refl}
use Rattle.chat_handlers.proofs.serving.tell_room.Goals as goal

pub returns-clause-tells : goal.returns-clause-tells
returns-clause-tells c = record {
  left = c.tell-refused.new.members.items;
  refused = c.tell-refused.result;
  told = c.tell-refused.ensures.told;
  has = record { are = refl; word = refl; next = refl; alloc = refl; counted = c.saturating_add-room.ensures };
}
