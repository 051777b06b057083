use Rattle.std.proofs.Common.{Err, ap, length, refl, subst, sym}
use Rattle.text_io.specs.Seen.{Writes}
use Rattle.trace_check.proofs.SessionLemmas.{said_of}
use Rattle.trace_check.specs.Line.{verdict_line}
use Rattle.trace_check.proofs.session.end_of_input.Goals as goal

pub returns-in-Err-Refused-clause-says : goal.returns-in-Err-Refused-clause-says
returns-in-Err-Refused-clause-says g c given words text out =
    let refusal = c.in-Err-Refused.refusal in (
      refusal,
      (c.args.form, words),
      (c.args.input.now, text, c.in-Err-Refused.ensures.refused refusal (ap Err c.in-Err-Refused.field-0-is)),
      rw c.in-Err-Refused.field-0-is refl,
    )

pub returns-in-Err-BadTrace-clause-says : goal.returns-in-Err-BadTrace-clause-says
returns-in-Err-BadTrace-clause-says g c given words text out =
    let line = c.in-Err-BadTrace.line in (
      line,
      (c.args.form, words),
      (c.args.input.now, text, c.in-Err-BadTrace.ensures.bad line (ap Err c.in-Err-BadTrace.field-0-is)),
      rw c.in-Err-BadTrace.field-0-is refl,
    )

pub returns-in-Ok-write_judged-clause-says : goal.returns-in-Ok-write_judged-clause-says
returns-in-Ok-write_judged-clause-says g c given words text out =
    let verdict = c.in-Ok-write_judged.verdict in
    let events = c.in-Ok.question.history.events in
    said_of given verdict
    (record {
      form = c.args.form;
      words = words;
      script = c.in-Ok.question.script;
      events = events;
      read = (c.args.input.now, text, c.in-Ok.ensures.asks);
      verdict = verdict;
      is = c.in-Ok-write_judged.ensures.verdict;
      kind = refl;
      written = subst (λ seen. Writes seen (verdict_line verdict (length events))) (sym out)
          c.in-Ok-write_judged.ensures.written;
    })
