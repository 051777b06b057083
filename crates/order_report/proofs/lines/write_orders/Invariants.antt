use Rattle.std.proofs.Common.{◌≡◌, take}
use Rattle.asio_types.specs.Sink.{Extends}
use Rattle.session_orders.specs.Listed.{events_in}
use Rattle.order_report.specs.Report.{orders_text}
use Rattle.order_report.proofs.lines.write_orders.Given as goal

abbrev pub invariant-loop-history : goal.invariant-loop-history
invariant-loop-history g l =
    record {
      written : Extends (g.K.Sink.written l.initial.out) (orders_text (take l.history-index (events_in l.histories)))
          (g.K.Sink.written l.out);
      faults : g.K.Sink.faults l.out ≡ g.K.Sink.faults l.initial.out;
    }
