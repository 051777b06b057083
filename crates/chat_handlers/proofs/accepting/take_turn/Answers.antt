use Rattle.chat_handlers.proofs.accepting.take_turn.Goals as goal

pub returns-clause-accepts : goal.returns-clause-accepts
returns-clause-accepts c = record {
  behind = c.accept.new.io;
  next = c.accept.ensures.next;
  begins = c.begin_if.ensures.begins;
}
