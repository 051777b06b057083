use Rattle.std.proofs.Common.{None, rules}
use Rattle.io_reactor_memory.proofs.memory_reactor.MemoryReactorReactor.connect.Goals as goal

pub returns-in-Ok-clause-plays : goal.returns-in-Ok-clause-plays
returns-in-Ok-clause-plays c = record {
  at = c.fetch_add-at.result;
  script = c.in-Some-Some.script;
  listed = let here = c.in-Some-Some.ensures.lookup.3.1 None in search rules;
  plays = search rules;
}
