use Rattle.std.proofs.Common.{sym, subst}
use Rattle.asio_types.specs.declared.event.Event.TheVariants as event
use Rattle.std.specs.Prelude.{None}
use Rattle.book_context.specs.Book.{IsBook}
use Rattle.book_context.specs.Recording.{with_outside_stop}
use Rattle.book_context.specs.Steps.{EventIsRecorded}
use Rattle.book_context.proofs.ClosingStepLemmas.{may_stop_outside, now_going, outside_book}
use Rattle.book_context.proofs.book.Book.stop.Given as given
use Rattle.book_context.proofs.book.Book.stop.Goals as goal
use Rattle.book_context.proofs.book.Book.stop.Goals.{After-rounds_are_recorded}

goes : (g : given.Over) (c : After-rounds_are_recorded g) →
    EventIsRecorded g.N.Session.told c.self.inside.record (event.Stop None) (with_outside_stop c.self.inside.record)
goes g c =
    may_stop_outside g.N.Session.script g.N.Session.told g.N.Session.run g.N.Session.drop g.N.Session.faults g.N.Session.outside
    g.H.CompletionHandler.marks g.X.Reactor.state g.X.Reactor.told g.X.Reactor.faults
    c.self.inside.record c.self.inside.hands c.self.inside.proactor c.self.invariant c.rounds_are_recorded.ensures.outside
    (sym c.if-not-is_open.ensures) (sym c.if-stopped.ensures)

pub invariant_of-self : goal.invariant_of-self
invariant_of-self g c =
    subst (λ t. IsBook g.N.Session.script g.N.Session.told g.N.Session.run g.N.Session.drop g.N.Session.faults g.N.Session.outside
    g.H.CompletionHandler.marks g.X.Reactor.state g.X.Reactor.told g.X.Reactor.faults
    t c.self.inside.hands c.self.inside.proactor) (sym c.push_outside_stop.ensures)
    (outside_book g.N.Session.script g.N.Session.told g.N.Session.run g.N.Session.drop g.N.Session.faults g.N.Session.outside
    g.H.CompletionHandler.marks g.X.Reactor.state g.X.Reactor.told g.X.Reactor.faults
    c.self.inside.record c.self.inside.hands c.self.inside.proactor c.self.invariant c.requires.allowed
    (goes g (goal.at.invariant_of-self g c).After-rounds_are_recorded))

pub returns-clause-unchanged : goal.returns-clause-unchanged
returns-clause-unchanged g c idle =
    absurd (idle (rw (← c.self.view_is)
    (now_going g.N.Session.script g.N.Session.told g.N.Session.run g.N.Session.drop g.N.Session.faults g.N.Session.outside
    g.H.CompletionHandler.marks g.X.Reactor.state g.X.Reactor.told g.X.Reactor.faults
    c.self.inside.record c.self.inside.hands c.self.inside.proactor c.self.invariant c.openings_are_recorded.ensures.rounds
    (sym c.if-not-is_open.ensures) (sym c.if-stopped.ensures))))
