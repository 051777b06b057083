use Rattle.std.proofs.Common.{◌≡◌, ◌<◌, ℕ}
use Rattle.history_rules.specs.State.{act_at}
use Rattle.session_orders.proofs.same.have_same_acts.Given as goal

abbrev pub invariant-loop-n : goal.invariant-loop-n
invariant-loop-n l =
    (k : ℕ) → k < l.n → act_at l.first.state.context k ≡ act_at l.second.state.context k
