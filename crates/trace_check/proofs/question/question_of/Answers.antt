use Rattle.trace_check.proofs.ReadBackLemmas.{few_events}
use Rattle.trace_check.proofs.question.question_of.Goals as goal

pub returns-in-Ok-read_trace-clause-few : goal.returns-in-Ok-read_trace-clause-few
returns-in-Ok-read_trace-clause-few c =
    few_events c.in-Some.parted.trace.now c.in-Ok-read_trace.history.events c.in-Ok-read_trace.ensures.few
    c.in-Ok-read_trace.ensures.trace
