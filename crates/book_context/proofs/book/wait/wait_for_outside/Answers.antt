use Rattle.book_context.proofs.book.wait.wait_for_outside.Goals as goal

pub tick-requires-clause-history : goal.tick-requires-clause-history
tick-requires-clause-history g c = c.requires.history

pub tick-requires-clause-reactor : goal.tick-requires-clause-reactor
tick-requires-clause-reactor g c = c.requires.reactor
