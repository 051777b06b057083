use Rattle.history_book.proofs.history.History.holds_events.Goals as goal

pub returns : goal.returns
returns c = rw (← c.self.view_is) c.self.invariant.1
