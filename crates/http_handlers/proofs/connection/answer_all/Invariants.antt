use Rattle.std.proofs.Common.{ℕ, List, length}
use Rattle.http_handlers.specs.Connections.{Gives, Left}
use Rattle.http_handlers.proofs.connection.answer_all.Given as goal

-- what the rest is answered, all bytes are
abbrev pub invariant-heads : goal.invariant-heads
invariant-heads l = (final : List ℕ) (left : Left) → Gives l.served l.rest l.out.items final left →
    Gives l.initial.served l.initial.rest l.initial.out.items final left

abbrev pub decreases-heads : goal.decreases-heads
decreases-heads l = length l.rest
