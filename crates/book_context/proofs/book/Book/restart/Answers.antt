use Rattle.std.proofs.Common.{sym, subst}
use Rattle.asio_types.specs.declared.event.Event.TheVariants as event
use Rattle.book_context.specs.Book.{IsBook}
use Rattle.book_context.specs.Recording.{with_restart}
use Rattle.book_context.specs.Steps.{EventIsRecorded}
use Rattle.book_context.proofs.ClosingStepLemmas.{may_restart, restarted_book, was_allowed}
use Rattle.book_context.proofs.book.Book.restart.Given as given
use Rattle.book_context.proofs.book.Book.restart.Goals as goal
use Rattle.book_context.proofs.book.Book.restart.Goals.{After-rounds_are_recorded}

goes : (g : given.Over) (c : After-rounds_are_recorded g) →
    EventIsRecorded g.N.Session.told c.self.inside.record event.Restart (with_restart c.self.inside.record)
goes g c =
    may_restart g.N.Session.script g.N.Session.told g.N.Session.run g.N.Session.drop g.N.Session.faults g.N.Session.outside
    g.H.CompletionHandler.marks g.X.Reactor.state g.X.Reactor.told g.X.Reactor.faults
    c.self.inside.record c.self.inside.hands c.self.inside.proactor c.self.invariant c.rounds_are_recorded.ensures.restarts
    (sym c.if-failed.ensures) (sym c.if-not-wants_restart.ensures)

pub invariant_of-self : goal.invariant_of-self
invariant_of-self g c =
    subst (λ t. IsBook g.N.Session.script g.N.Session.told g.N.Session.run g.N.Session.drop g.N.Session.faults g.N.Session.outside
    g.H.CompletionHandler.marks g.X.Reactor.state g.X.Reactor.told g.X.Reactor.faults
    t c.self.inside.hands c.self.inside.proactor) (sym c.restart.ensures)
    (restarted_book g.N.Session.script g.N.Session.told g.N.Session.run g.N.Session.drop g.N.Session.faults g.N.Session.outside
    g.H.CompletionHandler.marks g.X.Reactor.state g.X.Reactor.told g.X.Reactor.faults
    c.self.inside.record c.self.inside.hands c.self.inside.proactor c.self.invariant
    (goes g (goal.at.invariant_of-self g c).After-rounds_are_recorded))

pub returns-clause-may : goal.returns-clause-may
returns-clause-may g c _ =
    rw (← c.self.view_is)
    (was_allowed g.N.Session.script g.N.Session.told g.N.Session.run g.N.Session.drop g.N.Session.faults g.N.Session.outside
    g.H.CompletionHandler.marks g.X.Reactor.state g.X.Reactor.told g.X.Reactor.faults
    c.self.inside.record c.self.inside.hands c.self.inside.proactor c.self.invariant
    (goes g (goal.at.returns-clause-may g c).After-rounds_are_recorded))
