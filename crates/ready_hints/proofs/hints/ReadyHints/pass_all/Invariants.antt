use Rattle.std.proofs.Common.{◌≡◌, ◌+◌, ◌-◌, ◌<◌, ◌≤◌, replicate, vec_len, vec_capacity}
use Rattle.ready_hints.specs.HintRule.{all_parts}
use Rattle.ready_hints.specs.Hints.{first_pass, one_part}
use Rattle.ready_hints.proofs.hints.ReadyHints.pass_all.Given as goal

abbrev pub invariant-loop-left : goal.invariant-loop-left
invariant-loop-left l =
    (l.whole ≡ first_pass l.self (all_parts - (l.count - l.left))) × (0 < l.left) × (l.left ≤ l.count)
    × (l.list.items ≡ replicate (l.count - l.left) (one_part l.self)) × (vec_len l.list + l.left ≡ l.count)
    × (l.count ≤ vec_capacity l.list)

abbrev pub decreases-loop-left : goal.decreases-loop-left
decreases-loop-left l = l.left - 1
