use Rattle.std.proofs.Common.{◌≡◌, ◌+◌}
use Rattle.io_context.proofs.context.Context.serve.Given as goal

abbrev pub invariant-loop-executed : goal.invariant-loop-executed
invariant-loop-executed g l = l.worker.executed ≡ l.fn.worker.executed + l.executed
