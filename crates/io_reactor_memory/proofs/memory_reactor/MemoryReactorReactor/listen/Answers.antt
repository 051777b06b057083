use Rattle.std.proofs.Common.{None, rules}
use Rattle.io_reactor_memory.proofs.memory_reactor.MemoryReactorReactor.listen.Goals as goal

pub returns-in-Some-Some-clause-plays : goal.returns-in-Some-Some-clause-plays
returns-in-Some-Some-clause-plays c = record {
  at = c.fetch_add-at.result;
  visits = c.in-Some-Some.visits;
  listed = let here = c.in-Some-Some.ensures.lookup.3.1 None in search rules;
  plays = search rules;
}
