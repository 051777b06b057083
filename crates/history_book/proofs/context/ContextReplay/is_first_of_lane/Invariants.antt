use Rattle.std.proofs.Common.{◌≡◌, ℕ, ◌<◌}
use Rattle.std.specs.Prelude.{false}
use Rattle.session_script.specs.Lanes.{lane_of}
use Rattle.history_rules.specs.Order.{goes_before}
use Rattle.history_rules.specs.State.{act_at}
use Rattle.history_book.proofs.context.ContextReplay.is_first_of_lane.Given as goal

abbrev pub invariant-loop-n : goal.invariant-loop-n
invariant-loop-n l = (k : ℕ) → k < l.n → lane_of l.script k ≡ l.lane → goes_before (act_at l.self k) l.act ≡ false
