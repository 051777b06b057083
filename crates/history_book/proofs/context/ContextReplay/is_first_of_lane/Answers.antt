use Rattle.std.proofs.Common.{sym, ap, ◌∙◌, below_more, rules}
use Rattle.history_rules.specs.Order.{goes_before}
use Rattle.history_book.proofs.context.ContextReplay.is_first_of_lane.Goals as goal
use Rattle.history_book.proofs.context.ContextReplay.is_first_of_lane.Goals.{else-eq-via-then-eq+else-goes_before, else-eq-via-else-eq}

pub loop-n-preserved : goal.loop-n-preserved
loop-n-preserved c =
    below_more _ _ c.loop-n.invariant
    (elim c.else-eq.branch [
      | else-eq-via-then-eq+else-goes_before w ↦
          λ same.
          ap (λ act. goes_before act c.act-act.result) (sym w.act.ensures) ∙ sym w.goes_before.ensures
          ∙ w.if-goes_before.false
      | else-eq-via-else-eq w ↦ search rules
    ])
