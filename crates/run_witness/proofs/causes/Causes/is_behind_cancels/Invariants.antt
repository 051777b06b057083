use Rattle.std.proofs.Common.{take}
use Rattle.std.specs.List.{All}
use Rattle.run_witness.specs.Causes.{IsHarmless}
use Rattle.run_witness.proofs.causes.Causes.is_behind_cancels.Given as goal

abbrev pub invariant-loop-cancelled : goal.invariant-loop-cancelled
invariant-loop-cancelled l = All (IsHarmless l.waiter l.bound) (take l.cancelled-index l.cancelled-items)
