use Rattle.std.proofs.Common.{◌≡◌, ℕ, ◌<◌}
use Rattle.std.specs.Prelude.{false}
use Rattle.history_rules.specs.Rounds.{is_unspent}
use Rattle.history_rules.specs.State.{phase_at}
use Rattle.history_book.proofs.context.ContextReplay.first_unspent.Given as goal

abbrev pub invariant-loop-n : goal.invariant-loop-n
invariant-loop-n l = (p : ℕ) → p < l.n → is_unspent (phase_at l.self p) ≡ false
