use Rattle.std.proofs.Common.{ap, ◌+◌, ◌∙◌, sym, arith}
use Rattle.lane_map.specs.LaneNumbers.{has_own_lane, is_own}
use Rattle.lane_map.proofs.CountLemmas.{passing_by, passing_fits, passing_here}
use Rattle.lane_map.proofs.homes.own_lanes.Goals as goal
use Rattle.lane_map.proofs.homes.own_lanes.Goals.{then-is_own, else-is_own}

pub overflow_add-own : goal.overflow_add-own
overflow_add-own c = omega (arith, c.loop-a.invariant, passing_fits (has_own_lane c.args.script.now) c.loop-a.a)

pub loop-a-preserved : goal.loop-a-preserved
loop-a-preserved c = elim c.if-is_own.branch [
  | then-is_own w ↦
      w.own-is ∙ ap (λ n. n + 1) c.loop-a.invariant
      ∙ sym (passing_here (has_own_lane c.args.script.now) c.loop-a.a
      (sym (c.is_own.ensures ∙ ap (is_own c.loop-a.a) c.lane_of.ensures) ∙ w.if-is_own.true))
  | else-is_own w ↦
      w.own-is ∙ c.loop-a.invariant
      ∙ sym (passing_by (has_own_lane c.args.script.now) c.loop-a.a
      (sym (c.is_own.ensures ∙ ap (is_own c.loop-a.a) c.lane_of.ensures) ∙ w.if-is_own.false))
]

pub returns-clause-few : goal.returns-clause-few
returns-clause-few c = omega (arith, c.acts-a-end.ensures.limit, c.loop-a.invariant, passing_fits (has_own_lane c.args.script.now) c.loop-a.a)
