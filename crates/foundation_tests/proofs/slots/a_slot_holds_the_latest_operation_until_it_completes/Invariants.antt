use Rattle.std.proofs.Common.{◌≡◌, length}
use Rattle.foundation_tests.proofs.slots.a_slot_holds_the_latest_operation_until_it_completes.Given as goal

abbrev pub invariant-loop-at : goal.invariant-loop-at
invariant-loop-at g l = length l.slots ≡ 3
