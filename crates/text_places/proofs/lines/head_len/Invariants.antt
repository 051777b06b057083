use Rattle.std.proofs.Common.{◌≡◌, ◌<◌, ℕ, get_or}
use Rattle.text_places.specs.Lines.{BeginsLine}
use Rattle.text_places.proofs.lines.head_len.Given as goal

abbrev pub invariant-loop-at : goal.invariant-loop-at
invariant-loop-at l = (k : ℕ) → k < l.at → BeginsLine l.script k → get_or l.script k 0 ≡ 35
