use Rattle.std.proofs.Common.{sym, subst}
use Rattle.book_context.specs.Book.{IsBook}
use Rattle.book_context.proofs.ClosingStepLemmas.{closed_book}
use Rattle.book_context.proofs.book.Book.close.Goals as goal

pub invariant_of-self : goal.invariant_of-self
invariant_of-self g c =
    let closes = rw (← c.self.view_is) at c.in-Some.ensures.closes in
    subst (λ t. IsBook g.N.Session.script g.N.Session.told g.N.Session.run g.N.Session.drop g.N.Session.faults g.N.Session.outside
    g.H.CompletionHandler.marks g.X.Reactor.state g.X.Reactor.told g.X.Reactor.faults
    t c.self.inside.hands c.self.inside.proactor) (sym c.close.ensures)
    (closed_book g.N.Session.script g.N.Session.told g.N.Session.run g.N.Session.drop g.N.Session.faults g.N.Session.outside
    g.H.CompletionHandler.marks g.X.Reactor.state g.X.Reactor.told g.X.Reactor.faults
    c.self.inside.record c.self.inside.hands c.self.inside.proactor c.self.invariant c.in-Some.closing c.in-Some.stopped closes.0 closes.1)
