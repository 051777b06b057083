use Rattle.io_reactor_memory.proofs.AnswerLemmas.{may_write}
use Rattle.io_reactor_memory.proofs.memory_socket.MemorySocket.write.Goals as goal

pub returns-clause-within : goal.returns-clause-within
returns-clause-within c =
    let writes = c.self.inside.writes in
    rw c.write.ensures.answer (may_write _ writes.takes writes.end c.requires)
