use Rattle.std.proofs.Common.{length, refl}
use Rattle.trace_show.specs.Why.{why_text}
use Rattle.trace_show.proofs.why.write_why.Goals as goal

pub returns-in-Ok-write_answer-clause-written : goal.returns-in-Ok-write_answer-clause-written
returns-in-Ok-write_answer-clause-written g c =
    let said = c.in-Ok.told.said in
    let rest = c.in-Ok.told.detail.text.items in (
      why_text said.verdict said.reason (length c.args.events.now) rest,
      record { given = said.reason; why = c.in-Ok.ensures.reason; rest = rest; is = refl },
      c.in-Ok-write_answer.ensures.whole,
    )
