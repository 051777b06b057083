use Rattle.chat_handlers.proofs.telling.write_copy.Goals as goal

pub returns-in-Ok-clause-written : goal.returns-in-Ok-clause-written
returns-in-Ok-clause-written c done = record {
  buffer = c.in-Ok.buffer;
  copied = c.in-Ok.ensures.items;
  may = c.write.ensures.may done;
  is = c.write.ensures.written done;
}
