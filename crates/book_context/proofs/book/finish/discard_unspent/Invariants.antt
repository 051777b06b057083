use Rattle.book_context.proofs.FinishLemmas.{EndsTo}
use Rattle.book_context.proofs.book.finish.discard_unspent.Given as goal

abbrev pub invariant-loop-op : goal.invariant-loop-op
invariant-loop-op g l =
    EndsTo g.H.CompletionHandler.marks g.N.Session.told g.N.Session.run g.N.Session.drop g.N.Session.outside
    l.op l.op-end l.fn.recording l.recording l.left
