use Rattle.std.proofs.Common.{length, map}
use Rattle.op_handlers.specs.Rack.{handlers_in}
use Rattle.strand_core.proofs.FillingLemmas.{FilledTo}
use Rattle.strand_core.proofs.racks.filled_racks.Given as goal

abbrev pub invariant-loop-a : goal.invariant-loop-a
invariant-loop-a g l =
    FilledTo l.fn.script (length l.fn.racks.items) l.a (handlers_in l.fn.from) (handlers_in l.from)
    (map handlers_in l.racks.items)
