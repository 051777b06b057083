use Rattle.std.proofs.Common.{◌≡◌, ℕ, ◌<◌}
use Rattle.std.specs.Prelude.{true, false}
use Rattle.history_rules.specs.Order.{is_untaken, is_back_before}
use Rattle.history_rules.specs.State.{call_at}
use Rattle.history_book.proofs.replay.Replay.is_first_request.Given as goal

abbrev pub invariant-loop-n : goal.invariant-loop-n
invariant-loop-n l =
    (k : ℕ) → k < l.n → is_untaken l.self.state k ≡ true →
    is_back_before l.called (call_at l.self.state.context k) ≡ false
