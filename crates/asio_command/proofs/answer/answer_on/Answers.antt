use Rattle.trace_check.proofs.ReadBackLemmas.{few_events}
use Rattle.asio_command.proofs.answer.answer_on.Goals as goal

pub judged-requires : goal.judged-requires
judged-requires c =
    few_events c.in-Some.trace.now c.in-Ok-read_trace.history.events c.in-Ok-read_trace.ensures.few c.in-Ok-read_trace.ensures.trace
