use Rattle.std.proofs.Common.{length}
use Rattle.op_handlers.specs.Rack.{handlers_in}
use Rattle.strand_core.specs.Hands.{is_op_of}
use Rattle.strand_core.proofs.MovingLemmas.{TakenTo}
use Rattle.strand_core.proofs.hands.Hands.of_operations.Given as goal

abbrev pub invariant-loop-a : goal.invariant-loop-a
invariant-loop-a g l =
    TakenTo (is_op_of l.fn.script l.fn.lane) (length l.fn.script.acts) l.a (handlers_in l.fn.rack) (handlers_in l.rack)
    (handlers_in l.held)
