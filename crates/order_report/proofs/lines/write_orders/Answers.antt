use Rattle.std.proofs.Common.{◌∙◌}
use Rattle.order_report.proofs.ReportLemmas.{orders_more}
use Rattle.order_report.proofs.lines.write_orders.Goals as goal

pub loop-history-preserved : goal.loop-history-preserved
loop-history-preserved g c =
    record {
      written =
          orders_more (g.K.Sink.written c.args.out.now) (g.K.Sink.written c.loop-history.out)
          (g.K.Sink.written c.write_order.new.out) c.args.histories.now c.loop-history.history-index
          c.history-item.result c.loop-history-test.true c.history-item.is c.loop-history.invariant.written
          c.in_ok-write_order.ensures.written;
      faults = c.in_ok-write_order.ensures.counts ∙ c.loop-history.invariant.faults;
    }
