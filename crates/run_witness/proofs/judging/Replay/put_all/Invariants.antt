use Rattle.std.proofs.Common.{ℕ, List, [], reverse, take}
use Rattle.run_lines.specs.declared.line.Line.{Line}
use Rattle.run_witness.specs.Facts.{AreFacts}
use Rattle.run_witness.specs.Judging.{IsReplay}
use Rattle.run_witness.proofs.judging.Replay.put_all.Given as goal

abbrev pub invariant-loop-step : goal.invariant-loop-step
invariant-loop-step l = (apart : List ℕ) (thing : ℕ) (run : List Line) → AreFacts apart thing run l.facts →
    IsReplay run apart [] l.fn.self → IsReplay run apart (reverse (take l.step-index l.steps)) l.self
