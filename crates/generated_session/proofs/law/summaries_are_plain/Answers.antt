use Rattle.generated_session.proofs.PlainSummaryLemmas.{summary_is}
use Rattle.generated_session.proofs.law.summaries_are_plain.Goals as goal

pub returns : goal.returns
returns c start size few told events legal fine goes run drop marks =
    summary_is start size few told events legal fine goes run drop marks
