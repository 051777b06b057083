use Rattle.std.proofs.Common.{◌≡◌, sym, ap, subst, ◌∙◌}
use Rattle.book_context.specs.Book.{KeepsHistory}
use Rattle.book_context.specs.Oldest.{with_request}
use Rattle.book_context.proofs.NextStepLemmas.{popped_request, reactor_request, round_request, taken_next}
use Rattle.book_context.proofs.book.reactor_turn.take_next.Given as given
use Rattle.book_context.proofs.book.reactor_turn.take_next.Goals as goal
use Rattle.book_context.proofs.book.reactor_turn.take_next.Goals.{After-take_oldest-arg-in-Some-1}

same : (g : given.Over) (c : After-take_oldest-arg-in-Some-1 g) →
    with_request c.in-Some.a c.pop_request.new.self ≡ c.args.recording.now
same g c =
    popped_request c.in-Some.a c.args.recording.now c.pop_request.new.self c.pop_request.ensures.after c.in-Some.ensures.some

pub take_oldest-requires-clause-history : goal.take_oldest-requires-clause-history
take_oldest-requires-clause-history g c =
    subst (KeepsHistory g.N.Session.script g.N.Session.told g.N.Session.run g.N.Session.drop g.N.Session.outside)
    (sym (same g c)) c.requires.history

pub take_oldest-requires-clause-going : goal.take_oldest-requires-clause-going
take_oldest-requires-clause-going g c = ap (λ r. r.stopped) (same g c) ∙ c.requires.going

pub take_oldest-requires-clause-round : goal.take_oldest-requires-clause-round
take_oldest-requires-clause-round g c =
    round_request c.in-Some.a c.args.recording.now c.pop_request.new.self (same g c) c.requires.round

pub take_oldest-requires-clause-reactor : goal.take_oldest-requires-clause-reactor
take_oldest-requires-clause-reactor g c =
    reactor_request g.X.Reactor.state g.X.Reactor.told g.X.Reactor.faults g.N.Session.told g.N.Session.faults
    c.in-Some.a c.args.recording.now c.pop_request.new.self c.args.proactor.now (same g c) c.requires.reactor

pub returns-in-Some-clause-taken : goal.returns-in-Some-clause-taken
returns-in-Some-clause-taken g c =
    taken_next g.X.Reactor.state g.X.Reactor.told g.X.Reactor.faults g.N.Session.script g.N.Session.told g.N.Session.run
    g.N.Session.drop g.N.Session.faults g.N.Session.outside c.take_oldest.result c.in-Some.a c.args.recording.now
    c.pop_request.new.self c.take_oldest.new.recording c.args.proactor.now c.take_oldest.new.proactor
    (same g (goal.at.returns-in-Some-clause-taken g c).After-take_oldest-arg-in-Some-1)
    c.take_oldest.ensures.history c.take_oldest.ensures.reactor c.take_oldest.ensures.script c.take_oldest.ensures.spent
    c.take_oldest.ensures.turned
