use Rattle.std.proofs.Common.{◌≡◌, ap, ◌∙◌, sym, subst, rules, ◌+◌, ◌++◌, ◌∷◌, [], get_or}
use Rattle.std.proofs.lemmas.List.{take_more}
use Rattle.lane_clock.specs.Layout.{total}
use Rattle.lane_clock.specs.Rows.{cells_in, Starts}
use Rattle.lane_clock.proofs.RowLemmas.{starts_push, cells_push, total_push}
use Rattle.lane_clock.proofs.plan.ClockPlan.make.Goals as goal

pub loop-count-preserved : goal.loop-count-preserved
loop-count-preserved c =
    let items = c.in_ok-push.ensures.items in
    let inv = c.loop-count.invariant in
    let added : c.in_ok-start.start
    ≡ total (cells_in c.loop-count.rows.items) + get_or c.args.cells.now c.loop-count.count-index 0 =
    search rules in
    record {
      cells =
          ap cells_in items
          ∙ (cells_push _ _
          ∙ (ap (λ cs. cs ++ get_or c.args.cells.now c.loop-count.count-index 0 ∷ []) inv.cells
          ∙ sym (take_more c.args.cells.now c.loop-count.count-index 0 c.loop-count-test.true)));
      starts = subst Starts (sym items) (starts_push _ _ inv.starts inv.start);
      start = added ∙ sym (ap (λ rows. total (cells_in rows)) items ∙ (ap total (cells_push _ _) ∙ total_push _ _));
    }
