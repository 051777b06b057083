use Rattle.std.proofs.Common.{refl, subst}
use Rattle.order_questions.specs.Answer.{IsAnswer}
use Rattle.order_report.specs.Report.{answer_text, bounds_of}
use Rattle.order_report.proofs.ReportLemmas.{is_listing}
use Rattle.order_report.proofs.session.report_answer.Goals as goal

pub returns-clause-written : goal.returns-clause-written
returns-clause-written g c =
    let asked = c.in_ok-asked.asked in record {
      text = answer_text asked.orders asked.answer;
      is =
          record {
            listed = asked.orders;
            answer = asked.answer;
            is_listing =
                is_listing c.args.script.now c.bounds_of.result (bounds_of c.args.told c.args.most) asked.orders
                c.bounds_of.ensures c.in_ok-asked.ensures.right c.in_ok-asked.ensures.whole c.in_ok-asked.ensures.cut;
            is_answer =
                subst (λ bounds. IsAnswer c.args.script.now bounds.reactor c.args.condition asked.orders asked.answer)
                c.bounds_of.ensures c.in_ok-asked.ensures.answer;
            is_text = refl;
          };
      written = c.in_ok-write_answer.ensures.written;
    }
