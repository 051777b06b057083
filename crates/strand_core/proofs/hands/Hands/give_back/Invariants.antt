use Rattle.std.proofs.Common.{◌≡◌}
use Rattle.op_handlers.specs.Rack.{handlers_in}
use Rattle.strand_core.proofs.MovingLemmas.{GivenTo}
use Rattle.strand_core.proofs.hands.Hands.give_back.Given as goal

abbrev pub invariant-loop-n : goal.invariant-loop-n
invariant-loop-n g l =
    record {
      script : l.hands.script ≡ l.fn.self.script;
      given : GivenTo l.n l.fn.self.handlers (handlers_in l.fn.rack) l.hands.handlers (handlers_in l.rack);
    }
