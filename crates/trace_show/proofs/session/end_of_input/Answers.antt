use Rattle.std.proofs.Common.{Err, ap, refl, subst, sym}
use Rattle.trace_check.specs.Question.{IsQuestionOf}
use Rattle.trace_show.proofs.ShownLemmas.{shown_of}
use Rattle.trace_show.specs.Answer.{IsWritten}
use Rattle.trace_show.proofs.session.end_of_input.Goals as goal

pub returns-in-Err-Refused-clause-says : goal.returns-in-Err-Refused-clause-says
returns-in-Err-Refused-clause-says g c given words text out =
    let refusal = c.in-Err-Refused.refusal in (
      refusal,
      (c.args.form, words),
      (c.args.input.now, text, c.in-Err-Refused.ensures.refused refusal (ap Err c.in-Err-Refused.field-0-is)),
    )

pub returns-in-Err-BadTrace-clause-says : goal.returns-in-Err-BadTrace-clause-says
returns-in-Err-BadTrace-clause-says g c given words text out =
    let line = c.in-Err-BadTrace.line in (
      line,
      (c.args.form, words),
      (c.args.input.now, text, c.in-Err-BadTrace.ensures.bad line (ap Err c.in-Err-BadTrace.field-0-is)),
    )

pub returns-in-Ok-show-clause-says : goal.returns-in-Ok-show-clause-says
returns-in-Ok-show-clause-says g c given words text out =
    let script = c.in-Ok.question.script in
    let events = c.events.result.now in
    shown_of given c.in-Ok-show.verdict
    (record {
      form = c.args.form;
      words = words;
      script = script;
      events = events;
      read = (
        c.args.input.now,
        text,
        subst (λ these. IsQuestionOf c.args.input.now script these) (sym c.events.ensures)
            c.in-Ok.ensures.asks,
      );
      said = c.in-Ok-show.verdict;
      is = c.in-Ok-show.ensures.verdict;
      kind = refl;
      written = subst (λ seen. IsWritten c.args.form script events c.in-Ok-show.verdict seen) (sym out)
          c.in-Ok-show.ensures.written;
    })
