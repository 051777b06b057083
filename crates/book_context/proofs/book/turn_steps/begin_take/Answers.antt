use Rattle.std.proofs.Common.{refl, sym, subst}
use Rattle.history_rules.specs.Requests.{reactor_after_take}
use Rattle.book_context.specs.Book.{KeepsHistory}
use Rattle.book_context.specs.InTurn.{HasBegun}
use Rattle.book_context.specs.Oldest.{with_request}
use Rattle.book_context.specs.Recorded.{recorded_half}
use Rattle.book_context.specs.TurnSteps as steps
use Rattle.book_context.proofs.BeginLemmas.{take_begun, take_history}
use Rattle.book_context.proofs.book.turn_steps.begin_take.Given as given
use Rattle.book_context.proofs.book.turn_steps.begin_take.Goals as goal
use Rattle.book_context.proofs.book.turn_steps.begin_take.Goals.{After-turns_are_recorded}

did : (g : given.Over) (c : After-turns_are_recorded g) →
    steps.HasTaken g.N.Session.told (with_request c.args.a c.args.recording.now) c.args.a c.args.recording.now.requests
did g c =
    let can = c.requires.can in
    c.turns_are_recorded.ensures.takes g.N.Session.told (with_request c.args.a c.args.recording.now) c.args.a
    c.args.recording.now.requests c.requires.history.recorded
    (record {
      round = record { left = can.round.left; restarted = can.round.restarted };
      going = can.going;
      working = can.working;
      nothing_due = can.nothing_due;
      drained = can.drained;
    }) refl

pub push-requires : goal.push-requires
push-requires g c = (did g (goal.at.push-requires g c).After-turns_are_recorded).turned.goes.room

pub returns-clause-history : goal.returns-clause-history
returns-clause-history g c =
    subst (KeepsHistory g.N.Session.script g.N.Session.told g.N.Session.run g.N.Session.drop g.N.Session.outside)
    (sym c.push.ensures)
    (take_history g.N.Session.script g.N.Session.told g.N.Session.run g.N.Session.drop g.N.Session.outside
    c.args.recording.now c.args.a c.requires.history
    (did g (goal.at.returns-clause-history g c).After-turns_are_recorded))

pub returns-clause-begun : goal.returns-clause-begun
returns-clause-begun g c =
    subst
    (λ r.
    HasBegun g.N.Session.told c.args.recording.now r (reactor_after_take c.args.recording.now.script g.N.Session.told
    (recorded_half g.N.Session.told c.args.recording.now) c.args.a)) (sym c.push.ensures)
    (take_begun g.N.Session.script g.N.Session.told g.N.Session.run g.N.Session.drop g.N.Session.outside
    c.args.recording.now c.args.a c.requires.history
    (did g (goal.at.returns-clause-begun g c).After-turns_are_recorded) c.requires.can.round)
