use Rattle.std.proofs.Common.{refl, sym}
use Rattle.book_context.proofs.ClosingLemmas.{cannot_asked, cannot_ready, cannot_run, may_end, may_poll, may_stop}
use Rattle.book_context.proofs.book.Book.closing.Goals as goal

pub returns-then-stopped-clause-closes : goal.returns-then-stopped-clause-closes
returns-then-stopped-clause-closes g c =
    rw (← c.self.view_is) (
      tt,
      may_stop g.X.Reactor.state g.X.Reactor.told g.X.Reactor.faults g.N.Session.told g.N.Session.faults c.self.inside.record
          c.self.inside.proactor c.self.invariant.history.recorded c.self.invariant.reactor
          (sym c.if-failed.ensures) c.rounds_are_recorded.ensures.stops (sym c.if-not-is_open.ensures) (sym c.if-stopped.ensures),
    )

pub returns-then-not-is_ready_empty-clause-cannot : goal.returns-then-not-is_ready_empty-clause-cannot
returns-then-not-is_ready_empty-clause-cannot g c =
    rw (← c.self.view_is)
    (cannot_ready g.X.Reactor.state g.X.Reactor.told g.X.Reactor.faults g.N.Session.told g.N.Session.faults c.self.inside.record
    c.self.inside.proactor c.self.invariant.history.recorded c.self.invariant.reactor
    (sym c.if-failed.ensures) (sym c.if-stopped.ensures) c.rounds_are_recorded.ensures.work (c.if-not-is_ready_empty.ensures.some refl))

pub returns-then-not-is_request_empty-clause-cannot : goal.returns-then-not-is_request_empty-clause-cannot
returns-then-not-is_request_empty-clause-cannot g c =
    rw (← c.self.view_is)
    (cannot_asked g.X.Reactor.state g.X.Reactor.told g.X.Reactor.faults g.N.Session.told g.N.Session.faults c.self.inside.record
    c.self.inside.proactor c.self.invariant.history.recorded c.self.invariant.reactor
    (sym c.if-failed.ensures) (sym c.if-stopped.ensures) c.rounds_are_recorded.ensures.work (c.if-not-is_request_empty.ensures.some refl))

pub returns-then-not-has_work-clause-closes : goal.returns-then-not-has_work-clause-closes
returns-then-not-has_work-clause-closes g c =
    rw (← c.self.view_is) (
      tt,
      may_end g.X.Reactor.state g.X.Reactor.told g.X.Reactor.faults g.N.Session.told g.N.Session.faults c.self.inside.record
          c.self.inside.proactor c.self.invariant.history.recorded c.self.invariant.reactor
          (sym c.if-failed.ensures) (sym c.if-stopped.ensures) (c.if-not-is_ready_empty.ensures.empty refl)
          (c.if-not-is_request_empty.ensures.empty refl)
          c.rounds_are_recorded.ensures.work c.rounds_are_recorded.ensures.ends (sym c.if-not-is_open.ensures)
          (c.if-not-has_work.ensures.none refl),
    )

pub returns-then-is_run-clause-cannot : goal.returns-then-is_run-clause-cannot
returns-then-is_run-clause-cannot g c =
    rw (← c.self.view_is)
    (cannot_run g.X.Reactor.state g.X.Reactor.told g.X.Reactor.faults g.N.Session.told g.N.Session.faults c.self.inside.record
    c.self.inside.proactor c.self.invariant.history.recorded c.self.invariant.reactor
    (sym c.if-failed.ensures) (sym c.if-stopped.ensures) (c.if-not-is_ready_empty.ensures.empty refl)
    (c.if-not-is_request_empty.ensures.empty refl)
    c.rounds_are_recorded.ensures.work (c.if-not-has_work.ensures.some refl) (sym c.if-is_run.ensures))

pub returns-clause-closes : goal.returns-clause-closes
returns-clause-closes g c =
    rw (← c.self.view_is) (
      tt,
      may_poll g.X.Reactor.state g.X.Reactor.told g.X.Reactor.faults g.N.Session.told g.N.Session.faults c.self.inside.record
          c.self.inside.proactor c.self.invariant.history.recorded c.self.invariant.reactor
          (sym c.if-failed.ensures) (sym c.if-stopped.ensures) (c.if-not-is_ready_empty.ensures.empty refl)
          (c.if-not-is_request_empty.ensures.empty refl)
          c.rounds_are_recorded.ensures.work (c.if-not-has_work.ensures.some refl) c.rounds_are_recorded.ensures.polls
          (sym c.if-not-is_open.ensures) (sym c.if-is_run.ensures),
    )
