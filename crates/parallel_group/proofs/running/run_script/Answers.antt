use Rattle.std.proofs.Common.{refl, sym, subst}
use Rattle.history_book.specs.History.{Recorded}
use Rattle.parallel_group.specs.Orders.{GroupEnds, IsOrderOf}
use Rattle.parallel_group.proofs.ReportLemmas.{run_is}
use Rattle.parallel_group.proofs.running.run_script.Given.{Over}
use Rattle.parallel_group.proofs.running.run_script.Goals as goal

ran : (g : Over) (c : goal.After-report_of g) →
    IsOrderOf c.args.script.now c.report_of.result.history.events c.report_of.result.order.items
    × GroupEnds c.args.script.now c.report_of.result.history.events c.report_of.result.order.items c.report_of.result.end
ran g c =
    let of = c.in-Ok-task_session.ensures in
    let report = c.in-Ok-task_session.report in
    let given = c.report_of.result in
    subst (λ (h : Recorded). IsOrderOf c.args.script.now h.events given.order.items
    × GroupEnds c.args.script.now h.events given.order.items given.end) (sym c.report_of.ensures.history)
    (run_is c.args.script.now c.args.workers c.requires.group _ report.history.events of.finished.legal
    (of.finished.unstopped refl) c.in-Ok.room.0.items report.tasks.items report.ends.items given.order.items given.end
    (record {
      all = g.N.GroupOps.ops;
      are = c.requires.ops;
      got = of.got;
      ended = of.ended;
      starts = c.in-Ok.ensures.first;
      first = c.report_of.ensures.order;
      end_is = c.report_of.ensures.end;
    }))

pub returns-in-Ok-task_session-clause-order : goal.returns-in-Ok-task_session-clause-order
returns-in-Ok-task_session-clause-order g c = (ran g c).0

pub returns-in-Ok-task_session-clause-ended : goal.returns-in-Ok-task_session-clause-ended
returns-in-Ok-task_session-clause-ended g c = (ran g c).1
