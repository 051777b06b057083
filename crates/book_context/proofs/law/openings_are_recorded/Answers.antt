use Rattle.book_context.proofs.OpenedStepLemmas.{has_opened, inline_kept}
use Rattle.book_context.proofs.RecordedLemmas.{round_open}
use Rattle.book_context.proofs.law.openings_are_recorded.Goals as goal

pub returns-clause-openings : goal.returns-clause-openings
returns-clause-openings c = has_opened

pub returns-clause-rounds : goal.returns-clause-rounds
returns-clause-rounds c = round_open

pub returns-clause-inline : goal.returns-clause-inline
returns-clause-inline c = inline_kept
