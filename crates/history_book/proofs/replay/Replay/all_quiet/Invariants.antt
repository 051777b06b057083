use Rattle.std.proofs.Common.{◌≡◌, ℕ, ◌<◌}
use Rattle.std.specs.Prelude.{true}
use Rattle.history_rules.specs.Order.{was_taken}
use Rattle.history_rules.specs.Rounds.{is_quiet}
use Rattle.history_rules.specs.State.{phase_at}
use Rattle.history_book.proofs.replay.Replay.all_quiet.Given as goal

abbrev pub invariant-loop-n : goal.invariant-loop-n
invariant-loop-n l =
    (k : ℕ) → k < l.n → is_quiet (phase_at l.self.state.context k) (was_taken l.self.state.reactor k) ≡ true
