use Rattle.session_orders.specs.Listed.{events_in}
use Rattle.order_report.proofs.ReportLemmas.{counted_written}
use Rattle.order_report.proofs.session.report_count.Goals as goal

pub returns-clause-written : goal.returns-clause-written
returns-clause-written g c =
    let done =
    counted_written c.args.script.now c.args.told c.reactor_of.result c.states_of-states.result c.args.most
    c.in_ok-counted.counted c.bounds_of.result c.in_ok-shown.shown (events_in c.histories.result.now)
    (g.K.Sink.written c.args.out.now) (g.K.Sink.written c.write_counted.new.out) c.reactor_of.ensures
    c.states_of-states.ensures c.in_ok-counted.ensures.counted c.in_ok-counted.ensures.none c.bounds_of.ensures
    c.in_ok-shown.ensures.right c.in_ok-shown.ensures.whole c.in_ok-shown.ensures.cut c.histories.ensures
    c.in_ok-write_counted.ensures.written in
    record { text = done.text; is = done.is; written = done.written }
