use Rattle.std.proofs.Common.{ap, ◌+◌, ◌≡◌, ◌∙◌, sym, arith}
use Rattle.lane_map.specs.LaneNumbers.{act_passes, asks_reactor}
use Rattle.lane_map.proofs.CountLemmas.{passing_by, passing_fits, passing_here}
use Rattle.lane_map.proofs.counting.requests.Goals as goal
use Rattle.lane_map.proofs.counting.requests.Goals.{then-asks_reactor, else-asks_reactor}

pub overflow_add-requests : goal.overflow_add-requests
overflow_add-requests c =
    omega (arith, c.loop-a.invariant, passing_fits (act_passes asks_reactor c.args.script.now) c.loop-a.a)

pub loop-a-preserved : goal.loop-a-preserved
loop-a-preserved c =
    let is : act_passes asks_reactor c.args.script.now c.loop-a.a ≡ c.asks_reactor.result =
    rw c.act.ensures (sym c.asks_reactor.ensures) in
    elim c.if-asks_reactor.branch [
      | then-asks_reactor w ↦
          w.requests-is ∙ ap (λ n. n + 1) c.loop-a.invariant
          ∙ sym (passing_here (act_passes asks_reactor c.args.script.now) c.loop-a.a (is ∙ w.if-asks_reactor.true))
      | else-asks_reactor w ↦
          w.requests-is ∙ c.loop-a.invariant
          ∙ sym (passing_by (act_passes asks_reactor c.args.script.now) c.loop-a.a (is ∙ w.if-asks_reactor.false))
    ]
