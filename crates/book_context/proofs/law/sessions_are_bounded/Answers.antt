use Rattle.book_context.proofs.LeftLemmas.{first_bounded}
use Rattle.book_context.proofs.law.sessions_are_bounded.Goals as goal

pub returns : goal.returns
returns c = first_bounded
