use Rattle.book_context.proofs.CompletionLemmas.{telling_keeps}
use Rattle.book_context.proofs.TurnLemmas.{others_keep, taking_keeps}
use Rattle.book_context.proofs.law.turns_keep_order.Goals as goal

pub returns-clause-takes : goal.returns-clause-takes
returns-clause-takes c = taking_keeps

pub returns-clause-completions : goal.returns-clause-completions
returns-clause-completions c = telling_keeps

pub returns-clause-others : goal.returns-clause-others
returns-clause-others c = others_keep
