use Rattle.chat_handlers.specs.Chats.Refuses.{tells}
use Rattle.chat_handlers.proofs.reading.refuse.Goals as goal

pub returns-in-Ok-clause-refuses : goal.returns-in-Ok-clause-refuses
returns-in-Ok-clause-refuses c = tells c.in-Ok.buffer c.in-Ok.ensures.items c.write_last.ensures.writes
