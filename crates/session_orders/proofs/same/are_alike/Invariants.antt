use Rattle.std.proofs.Common.{Bool, take}
use Rattle.history_rules.specs.Legal.{state_of}
use Rattle.session_orders.proofs.SameLemmas.{AreAlike}
use Rattle.session_orders.proofs.same.are_alike.Given as goal

abbrev pub invariant-loop-i : goal.invariant-loop-i
invariant-loop-i l =
    (told : Bool) → AreAlike l.free (state_of l.script told (take l.i l.first))
    (state_of l.script told (take l.i l.second))
