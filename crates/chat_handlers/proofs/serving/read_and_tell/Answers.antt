use Rattle.chat_handlers.proofs.serving.read_and_tell.Goals as goal

pub returns-clause-tells : goal.returns-clause-tells
returns-clause-tells c = record {
  behind = c.read_on.new.io;
  reads = c.read_on.ensures.reads;
  tells = c.tell_room.ensures.tells;
}
