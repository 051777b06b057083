use Rattle.std.proofs.Common.{◌≡◌, sym, ap, subst, ◌∙◌}
use Rattle.book_context.specs.Book.{HoldsUnspent, KeepsHistory}
use Rattle.book_context.specs.Oldest.{with_ready}
use Rattle.book_context.proofs.NextStepLemmas.{executed_next, popped_ready, round_ready}
use Rattle.book_context.proofs.book.execution.execute_next.Given as given
use Rattle.book_context.proofs.book.execution.execute_next.Goals as goal
use Rattle.book_context.proofs.book.execution.execute_next.Goals.{After-execute_oldest-arg-in-Some-1}

same : (g : given.Over) (c : After-execute_oldest-arg-in-Some-1 g) →
    with_ready (c.in-Some.op, c.in-Some.code, c.in-Some.size) c.pop_ready.new.self ≡ c.args.recording.now
same g c =
    popped_ready (c.in-Some.op, c.in-Some.code, c.in-Some.size) c.args.recording.now c.pop_ready.new.self
    c.pop_ready.ensures.after c.in-Some.ensures.some

pub execute_oldest-requires-clause-history : goal.execute_oldest-requires-clause-history
execute_oldest-requires-clause-history g c =
    subst (KeepsHistory g.N.Session.script g.N.Session.told g.N.Session.run g.N.Session.drop g.N.Session.outside)
    (sym (same g c)) c.requires.history

pub execute_oldest-requires-clause-hands : goal.execute_oldest-requires-clause-hands
execute_oldest-requires-clause-hands g c =
    subst
    (λ r.
    HoldsUnspent g.H.CompletionHandler.marks g.N.Session.told g.N.Session.run g.N.Session.drop r c.args.hands.now)
    (sym (same g c)) c.requires.hands

pub execute_oldest-requires-clause-going : goal.execute_oldest-requires-clause-going
execute_oldest-requires-clause-going g c = ap (λ r. r.stopped) (same g c) ∙ c.requires.going

pub execute_oldest-requires-clause-round : goal.execute_oldest-requires-clause-round
execute_oldest-requires-clause-round g c =
    round_ready (c.in-Some.op, c.in-Some.code, c.in-Some.size) c.args.recording.now c.pop_ready.new.self (same g c) c.requires.round

pub returns-in-Some-clause-executed : goal.returns-in-Some-clause-executed
returns-in-Some-clause-executed g c _ =
    executed_next g.H.CompletionHandler.marks g.N.Session.script g.N.Session.told g.N.Session.run g.N.Session.drop
    g.N.Session.outside (c.in-Some.op, c.in-Some.code, c.in-Some.size) c.args.recording.now c.pop_ready.new.self
    c.execute_oldest.new.recording c.execute_oldest.new.hands
    (same g (goal.at.returns-in-Some-clause-executed g c).After-execute_oldest-arg-in-Some-1)
    c.execute_oldest.ensures.history c.execute_oldest.ensures.hands c.execute_oldest.ensures.script
    c.execute_oldest.ensures.half c.execute_oldest.ensures.faults c.execute_oldest.ensures.gone
