use Rattle.std.proofs.Common.{refl}
use Rattle.chat_handlers.specs.Chats.ReadsFirst.{reads}
use Rattle.chat_handlers.proofs.reading.read_first.Goals as goal

pub returns-in-Ok-clause-reads : goal.returns-in-Ok-clause-reads
returns-in-Ok-clause-reads c =
    reads (record { alloc = c.args.alloc; door = c.args.door; link = c.args.link; kept = c.new.result }) c.in-Ok.buffer
    c.in-Ok.ensures.len c.new.ensures.len refl refl c.read.ensures.reads
