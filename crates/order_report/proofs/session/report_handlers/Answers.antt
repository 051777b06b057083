use Rattle.std.proofs.Common.{ap}
use Rattle.session_orders.specs.Listed.{events_in}
use Rattle.order_report.specs.Report.{bounds_of}
use Rattle.order_report.proofs.ReportLemmas.{handlers_written}
use Rattle.order_report.proofs.session.report_handlers.Goals as goal

pub returns-clause-written : goal.returns-clause-written
returns-clause-written g c =
    let done =
    handlers_written c.args.script.now c.bounds_of.result (bounds_of c.args.told c.args.most) (events_in c.in_ok-found.found.lists.items)
    (events_in c.as_slice.result.now) c.in_ok-found.found.all (g.K.Sink.written c.args.out.now)
    (g.K.Sink.written c.write_listed.new.out) c.bounds_of.ensures c.in_ok-found.ensures.right c.in_ok-found.ensures.whole
    c.in_ok-found.ensures.cut (ap events_in c.as_slice.ensures.value) c.in_ok-write_listed.ensures.written in
    record { text = done.text; is = done.is; written = done.written }
