use Rattle.std.proofs.Common.{sym, ap, subst, ◌∙◌}
use Rattle.book_context.specs.Book.{IsBook, KeepsHistory, KeepsReactor}
use Rattle.book_context.specs.InTurn.{HasTakenNext, SpendsNone, WaitsForOutside}
use Rattle.book_context.specs.Steps.{IsRoundOpen}
use Rattle.book_context.proofs.BookTurnLemmas.{closed_answer, executed_answer, executed_book, stopped_answer, taken_answer, turned_book, waited_answer}
use Rattle.book_context.proofs.OpenRoundLemmas.{round_open}
use Rattle.book_context.proofs.book.Book.turn.Goals as goal

pub returns-then-stopped : goal.returns-then-stopped
returns-then-stopped g c =
    rw (← c.self.view_is) (stopped_answer g.N.Session.script g.N.Session.told g.N.Session.run g.N.Session.drop
    g.N.Session.faults g.N.Session.outside g.H.CompletionHandler.marks g.X.Reactor.state g.X.Reactor.told
    g.X.Reactor.faults c.self.inside.record c.self.inside.hands c.self.inside.proactor c.self.invariant
    (sym c.stopped.ensures ∙ c.if-stopped.true))

pub returns-then-not-is_open : goal.returns-then-not-is_open
returns-then-not-is_open g c =
    rw (← c.self.view_is) (closed_answer g.N.Session.script g.N.Session.told g.N.Session.run g.N.Session.drop
    g.N.Session.faults g.N.Session.outside g.H.CompletionHandler.marks g.X.Reactor.state g.X.Reactor.told
    g.X.Reactor.faults c.self.inside.record c.self.inside.hands c.self.inside.proactor c.self.invariant
    (sym c.stopped.ensures ∙ c.if-stopped.false) (sym c.is_open.ensures ∙ c.if-not-is_open.true))

pub execute_next-requires-clause-history : goal.execute_next-requires-clause-history
execute_next-requires-clause-history g c =
    c.self.invariant.history

pub execute_next-requires-clause-hands : goal.execute_next-requires-clause-hands
execute_next-requires-clause-hands g c =
    c.self.invariant.holds

pub execute_next-requires-clause-going : goal.execute_next-requires-clause-going
execute_next-requires-clause-going g c =
    sym c.stopped.ensures ∙ c.if-stopped.false

pub execute_next-requires-clause-round : goal.execute_next-requires-clause-round
execute_next-requires-clause-round g c =
    round_open c.self.inside.record (sym c.is_open.ensures ∙ c.if-not-is_open.false)

pub invariant_of-self : goal.invariant_of-self
invariant_of-self g c =
    executed_book g.N.Session.script g.N.Session.told g.N.Session.run g.N.Session.drop g.N.Session.faults
    g.N.Session.outside g.H.CompletionHandler.marks g.X.Reactor.state g.X.Reactor.told g.X.Reactor.faults
    c.self.inside.record c.self.inside.hands c.self.inside.proactor c.self.invariant
    (sym c.stopped.ensures ∙ c.if-stopped.false) c.execute_next.new.recording c.execute_next.new.hands
    (c.execute_next.ensures.executed c.if-execute_next.true)

pub returns-then-execute_next : goal.returns-then-execute_next
returns-then-execute_next g c =
    rw (← c.self.view_is) (executed_answer g.N.Session.script g.N.Session.told g.N.Session.run g.N.Session.drop
    g.N.Session.faults g.N.Session.outside g.H.CompletionHandler.marks g.X.Reactor.state g.X.Reactor.told
    g.X.Reactor.faults c.self.inside.record c.self.inside.hands c.self.inside.proactor c.self.invariant
    c.openings_are_recorded.ensures.rounds (sym c.stopped.ensures ∙ c.if-stopped.false)
    (round_open c.self.inside.record (sym c.is_open.ensures ∙ c.if-not-is_open.false)) c.execute_next.new.recording
    c.execute_next.new.hands (c.execute_next.ensures.executed c.if-execute_next.true))

pub take_next-requires-clause-history : goal.take_next-requires-clause-history
take_next-requires-clause-history g c =
    subst (KeepsHistory g.N.Session.script g.N.Session.told g.N.Session.run g.N.Session.drop g.N.Session.outside)
    (sym (c.execute_next.ensures.same c.if-execute_next.false)) c.self.invariant.history

pub take_next-requires-clause-going : goal.take_next-requires-clause-going
take_next-requires-clause-going g c =
    ap (λ r. r.stopped) (c.execute_next.ensures.same c.if-execute_next.false) ∙ sym c.stopped.ensures
    ∙ c.if-stopped.false

pub take_next-requires-clause-round : goal.take_next-requires-clause-round
take_next-requires-clause-round g c =
    subst IsRoundOpen (sym (c.execute_next.ensures.same c.if-execute_next.false))
    (round_open c.self.inside.record (sym c.is_open.ensures ∙ c.if-not-is_open.false))

pub take_next-requires-clause-reactor : goal.take_next-requires-clause-reactor
take_next-requires-clause-reactor g c =
    subst
    (λ r.
    KeepsReactor g.X.Reactor.state g.X.Reactor.told g.X.Reactor.faults g.N.Session.told g.N.Session.faults r
    c.self.inside.proactor) (sym (c.execute_next.ensures.same c.if-execute_next.false)) c.self.invariant.reactor

pub invariant_of-self-in-Some : goal.invariant_of-self-in-Some
invariant_of-self-in-Some g c =
    let did =
    (subst
    (λ r.
    HasTakenNext g.X.Reactor.state g.X.Reactor.told g.X.Reactor.faults g.N.Session.script g.N.Session.told
    g.N.Session.run g.N.Session.drop g.N.Session.faults g.N.Session.outside c.in-Some.turn r
    c.take_next.new.recording c.self.inside.proactor c.take_next.new.proactor)
    (c.execute_next.ensures.same c.if-execute_next.false) c.in-Some.ensures.taken) in
    subst
    (λ h.
    IsBook g.N.Session.script g.N.Session.told g.N.Session.run g.N.Session.drop g.N.Session.faults
    g.N.Session.outside g.H.CompletionHandler.marks g.X.Reactor.state g.X.Reactor.told g.X.Reactor.faults
    c.take_next.new.recording h c.take_next.new.proactor)
    (sym (c.execute_next.ensures.same_hands c.if-execute_next.false))
    (turned_book g.N.Session.script g.N.Session.told g.N.Session.run g.N.Session.drop g.N.Session.faults
    g.N.Session.outside g.H.CompletionHandler.marks g.X.Reactor.state g.X.Reactor.told g.X.Reactor.faults
    c.self.inside.record c.self.inside.hands c.self.inside.proactor c.self.invariant c.take_next.new.recording
    c.take_next.new.proactor did.history did.reactor did.same_script did.spent)

pub returns-in-Some : goal.returns-in-Some
returns-in-Some g c =
    rw (← c.self.view_is)
    (taken_answer g.N.Session.script g.N.Session.told g.N.Session.run g.N.Session.drop g.N.Session.faults
    g.N.Session.outside g.H.CompletionHandler.marks g.X.Reactor.state g.X.Reactor.told g.X.Reactor.faults
    c.self.inside.record c.self.inside.hands c.self.inside.proactor c.self.invariant
    c.openings_are_recorded.ensures.rounds (sym c.stopped.ensures ∙ c.if-stopped.false)
    (round_open c.self.inside.record (sym c.is_open.ensures ∙ c.if-not-is_open.false)) c.in-Some.turn
    c.take_next.new.recording c.take_next.new.proactor (subst
    (λ r.
    HasTakenNext g.X.Reactor.state g.X.Reactor.told g.X.Reactor.faults g.N.Session.script g.N.Session.told
    g.N.Session.run g.N.Session.drop g.N.Session.faults g.N.Session.outside c.in-Some.turn r
    c.take_next.new.recording c.self.inside.proactor c.take_next.new.proactor)
    (c.execute_next.ensures.same c.if-execute_next.false) c.in-Some.ensures.taken))

pub wait_for_outside-requires-clause-history : goal.wait_for_outside-requires-clause-history
wait_for_outside-requires-clause-history g c =
    subst (KeepsHistory g.N.Session.script g.N.Session.told g.N.Session.run g.N.Session.drop g.N.Session.outside)
    (sym (c.in-None.ensures.same ∙ c.execute_next.ensures.same c.if-execute_next.false)) c.self.invariant.history

pub wait_for_outside-requires-clause-ready : goal.wait_for_outside-requires-clause-ready
wait_for_outside-requires-clause-ready g c =
    ap (λ r. r.ready) (c.in-None.ensures.same ∙ c.execute_next.ensures.same c.if-execute_next.false)
    ∙ c.execute_next.ensures.none c.if-execute_next.false

pub wait_for_outside-requires-clause-requests : goal.wait_for_outside-requires-clause-requests
wait_for_outside-requires-clause-requests g c =
    ap (λ r. r.requests) c.in-None.ensures.same ∙ c.in-None.ensures.none

pub wait_for_outside-requires-clause-going : goal.wait_for_outside-requires-clause-going
wait_for_outside-requires-clause-going g c =
    ap (λ r. r.stopped) (c.in-None.ensures.same ∙ c.execute_next.ensures.same c.if-execute_next.false)
    ∙ sym c.stopped.ensures ∙ c.if-stopped.false

pub wait_for_outside-requires-clause-round : goal.wait_for_outside-requires-clause-round
wait_for_outside-requires-clause-round g c =
    subst IsRoundOpen (sym (c.in-None.ensures.same ∙ c.execute_next.ensures.same c.if-execute_next.false))
    (round_open c.self.inside.record (sym c.is_open.ensures ∙ c.if-not-is_open.false))

pub wait_for_outside-requires-clause-reactor : goal.wait_for_outside-requires-clause-reactor
wait_for_outside-requires-clause-reactor g c =
    subst
    (λ r.
    KeepsReactor g.X.Reactor.state g.X.Reactor.told g.X.Reactor.faults g.N.Session.told g.N.Session.faults r
    c.take_next.new.proactor) (sym (c.in-None.ensures.same ∙ c.execute_next.ensures.same c.if-execute_next.false))
    (subst
    (KeepsReactor g.X.Reactor.state g.X.Reactor.told g.X.Reactor.faults g.N.Session.told g.N.Session.faults
    c.self.inside.record) (sym c.in-None.ensures.same_proactor) c.self.invariant.reactor)

pub invariant_of-self-in-None : goal.invariant_of-self-in-None
invariant_of-self-in-None g c =
    subst
    (λ h.
    IsBook g.N.Session.script g.N.Session.told g.N.Session.run g.N.Session.drop g.N.Session.faults
    g.N.Session.outside g.H.CompletionHandler.marks g.X.Reactor.state g.X.Reactor.told g.X.Reactor.faults
    c.wait_for_outside.new.recording h c.wait_for_outside.new.proactor)
    (sym (c.execute_next.ensures.same_hands c.if-execute_next.false))
    (turned_book g.N.Session.script g.N.Session.told g.N.Session.run g.N.Session.drop g.N.Session.faults
    g.N.Session.outside g.H.CompletionHandler.marks g.X.Reactor.state g.X.Reactor.told g.X.Reactor.faults
    c.self.inside.record c.self.inside.hands c.self.inside.proactor c.self.invariant c.wait_for_outside.new.recording
    c.wait_for_outside.new.proactor c.wait_for_outside.ensures.history c.wait_for_outside.ensures.reactor
    (c.wait_for_outside.ensures.script
    ∙ ap (λ r. r.script) (c.in-None.ensures.same ∙ c.execute_next.ensures.same c.if-execute_next.false))
    (subst (λ r. SpendsNone g.N.Session.told r c.wait_for_outside.new.recording)
    (c.in-None.ensures.same ∙ c.execute_next.ensures.same c.if-execute_next.false)
    c.wait_for_outside.ensures.spent))

pub returns-in-None : goal.returns-in-None
returns-in-None g c =
    rw (← c.self.view_is)
    (waited_answer g.N.Session.script g.N.Session.told g.N.Session.run g.N.Session.drop g.N.Session.faults
    g.N.Session.outside g.H.CompletionHandler.marks g.X.Reactor.state g.X.Reactor.told g.X.Reactor.faults
    c.self.inside.record c.self.inside.hands c.self.inside.proactor c.self.invariant
    c.openings_are_recorded.ensures.rounds (sym c.stopped.ensures ∙ c.if-stopped.false)
    (round_open c.self.inside.record (sym c.is_open.ensures ∙ c.if-not-is_open.false)) c.wait_for_outside.result
    c.wait_for_outside.new.recording c.wait_for_outside.new.proactor (subst
    (λ r.
    WaitsForOutside g.X.Reactor.faults g.N.Session.told c.wait_for_outside.result r c.wait_for_outside.new.recording
    c.self.inside.proactor c.wait_for_outside.new.proactor)
    (c.in-None.ensures.same ∙ c.execute_next.ensures.same c.if-execute_next.false) (subst
    (λ v.
    WaitsForOutside g.X.Reactor.faults g.N.Session.told c.wait_for_outside.result c.take_next.new.recording
    c.wait_for_outside.new.recording v c.wait_for_outside.new.proactor) c.in-None.ensures.same_proactor
    c.wait_for_outside.ensures.waits)))
