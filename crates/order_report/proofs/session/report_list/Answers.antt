use Rattle.session_orders.specs.Listed.{events_in}
use Rattle.order_report.specs.Report.{bounds_of}
use Rattle.order_report.proofs.ReportLemmas.{listed_written}
use Rattle.order_report.proofs.session.report_list.Goals as goal

pub returns-clause-written : goal.returns-clause-written
returns-clause-written g c =
    let done =
    listed_written c.args.script.now c.bounds_of.result (bounds_of c.args.told c.args.most) c.in_ok-orders.orders (events_in c.histories.result.now)
    c.are_all.result (g.K.Sink.written c.args.out.now) (g.K.Sink.written c.write_listed.new.out) c.bounds_of.ensures
    c.in_ok-orders.ensures.right c.in_ok-orders.ensures.whole c.in_ok-orders.ensures.cut c.histories.ensures c.are_all.ensures
    c.in_ok-write_listed.ensures.written in
    record { text = done.text; is = done.is; written = done.written }
