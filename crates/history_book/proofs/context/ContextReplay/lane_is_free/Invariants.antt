use Rattle.std.proofs.Common.{◌≡◌, ℕ, ◌<◌}
use Rattle.std.specs.Prelude.{false}
use Rattle.session_script.specs.Lanes.{lane_of}
use Rattle.history_rules.specs.Rounds.{is_running}
use Rattle.history_rules.specs.State.{phase_at}
use Rattle.history_book.proofs.context.ContextReplay.lane_is_free.Given as goal

abbrev pub invariant-loop-n : goal.invariant-loop-n
invariant-loop-n l = (k : ℕ) → k < l.n → lane_of l.script k ≡ l.lane → is_running (phase_at l.self k) ≡ false
