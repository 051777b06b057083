use Rattle.history_book.proofs.ReadingLemmas.{same_events}
use Rattle.history_book.proofs.trace.one_to_one.Goals as goal

pub returns : goal.returns
returns c =
    same_events c.args.first.now.events c.args.second.now.events c.holds_events.ensures
    c.holds_events-2.ensures
