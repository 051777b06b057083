use Rattle.std.proofs.Common.{rules}
use Rattle.std.proofs.lemmas.Fn.{filter_same}
use Rattle.history_book.proofs.waiting.complete_waits.Goals as goal

pub returns-clause-waits : goal.returns-clause-waits
returns-clause-waits c = filter_same _ _ _ (λ x b f' k. search rules) _ _ c.retain.ensures.filtered
