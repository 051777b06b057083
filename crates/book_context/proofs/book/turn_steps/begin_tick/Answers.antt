use Rattle.std.proofs.Common.{◌∙◌, ap, sym, subst}
use Rattle.book_context.specs.Book.{KeepsHistory}
use Rattle.book_context.specs.BookSteps.{passed_event}
use Rattle.book_context.specs.InTurn.{HasBegun}
use Rattle.book_context.specs.Recorded.{recorded_half}
use Rattle.book_context.specs.Recording.{with_event}
use Rattle.book_context.specs.TurnSteps as steps
use Rattle.proactor_core.specs.Proactor.{after_point}
use Rattle.book_context.proofs.BeginLemmas.{point_turned, tick_begun, tick_history}
use Rattle.book_context.proofs.book.turn_steps.begin_tick.Given as given
use Rattle.book_context.proofs.book.turn_steps.begin_tick.Goals as goal
use Rattle.book_context.proofs.book.turn_steps.begin_tick.Goals.{After-turns_are_recorded}

did : (g : given.Over) (c : After-turns_are_recorded g) →
    steps.TurnIsBegun g.N.Session.told c.args.recording.now (passed_event c.args.point.now)
    (with_event (passed_event c.args.point.now) c.args.recording.now)
did g c =
    point_turned g.N.Session.script g.N.Session.told g.N.Session.run g.N.Session.drop g.N.Session.outside
    c.args.recording.now c.requires.history c.requires.waiting.turn.round
    c.turns_are_recorded.ensures.ticks c.turns_are_recorded.ensures.last c.requires.history.recorded c.requires.waiting
    c.args.point.now c.requires.next

pub push-requires : goal.push-requires
push-requires g c = (did g (goal.at.push-requires g c).After-turns_are_recorded).goes.room

pub returns-clause-history : goal.returns-clause-history
returns-clause-history g c =
    subst (KeepsHistory g.N.Session.script g.N.Session.told g.N.Session.run g.N.Session.drop g.N.Session.outside)
    (sym (c.push.ensures ∙ ap (λ e. with_event e c.args.recording.now) c.passed_event.ensures))
    (tick_history g.N.Session.script g.N.Session.told g.N.Session.run g.N.Session.drop g.N.Session.outside
    c.args.recording.now c.requires.history c.requires.waiting.turn.round c.args.point.now
    (did g (goal.at.returns-clause-history g c).After-turns_are_recorded))

pub returns-clause-begun : goal.returns-clause-begun
returns-clause-begun g c =
    subst (λ r.
    HasBegun g.N.Session.told c.args.recording.now r (after_point c.args.recording.now.script g.N.Session.told
    c.args.point.now (recorded_half g.N.Session.told c.args.recording.now)))
    (sym (c.push.ensures ∙ ap (λ e. with_event e c.args.recording.now) c.passed_event.ensures))
    (tick_begun g.N.Session.script g.N.Session.told g.N.Session.run g.N.Session.drop g.N.Session.outside
    c.args.recording.now c.requires.history c.requires.waiting.turn.round c.args.point.now
    (did g (goal.at.returns-clause-begun g c).After-turns_are_recorded))
