use Rattle.std.specs.Prelude.{length, map}
use Rattle.io_reactor_memory.specs.Sides.{sends_of}
use Rattle.io_reactor_memory.proofs.AnswerLemmas.{may_read}
use Rattle.io_reactor_memory.proofs.memory_socket.MemorySocket.read.Goals as goal

pub returns-clause-within : goal.returns-clause-within
returns-clause-within c =
    let reads = c.self.inside.reads in
    rw c.read.ensures.answer (may_read _ (map length (sends_of reads)) reads.end c.requires)
