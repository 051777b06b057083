use Rattle.std.proofs.Common.{subst, sym}
use Rattle.std.specs.Prelude.{OnOk}
use Rattle.order_report.specs.Report.{IsReport}
use Rattle.order_report.specs.Session.{HasWritten}
use Rattle.order_report.proofs.session.report.Goals as goal

pub returns-in-Can-clause-written : goal.returns-in-Can-clause-written
returns-in-Can-clause-written g c =
    subst
    (λ task.
    OnOk c.report_answer.result
    (HasWritten (IsReport c.args.script.now c.args.form.told c.args.form.most task) (g.K.Sink.written c.args.out.now)
    (g.K.Sink.written c.report_answer.new.out)))
    (sym c.in-Can.is) c.report_answer.ensures.written

pub returns-in-Count-clause-written : goal.returns-in-Count-clause-written
returns-in-Count-clause-written g c =
    subst
    (λ task.
    OnOk c.report_count.result
    (HasWritten (IsReport c.args.script.now c.args.form.told c.args.form.most task) (g.K.Sink.written c.args.out.now)
    (g.K.Sink.written c.report_count.new.out)))
    (sym c.in-Count.is) c.report_count.ensures.written
