use Rattle.std.proofs.Common.{ap, refl, sym, subst}
use Rattle.history_rules.specs.State.{State}
use Rattle.book_context.specs.Book.{KeepsHistory}
use Rattle.book_context.specs.InTurn.{HasBroken}
use Rattle.book_context.specs.TurnSteps as steps
use Rattle.book_context.proofs.BeginLemmas.{fault_history}
use Rattle.book_context.proofs.book.turn_steps.fail.Given as given
use Rattle.book_context.proofs.book.turn_steps.fail.Goals as goal
use Rattle.book_context.proofs.book.turn_steps.fail.Goals.{After-turns_are_recorded}

did : (g : given.Over) (c : After-turns_are_recorded g) → steps.HasFailed g.N.Session.told c.args.recording.now
did g c =
    c.turns_are_recorded.ensures.faults g.N.Session.told c.args.recording.now c.requires.history.recorded c.requires.round
    c.requires.works c.requires.untold

pub push_fault-requires : goal.push_fault-requires
push_fault-requires g c = (did g (goal.at.push_fault-requires g c).After-turns_are_recorded).goes.room

pub returns-clause-history : goal.returns-clause-history
returns-clause-history g c =
    subst (KeepsHistory g.N.Session.script g.N.Session.told g.N.Session.run g.N.Session.drop g.N.Session.outside)
    (sym c.push_fault.ensures)
    (fault_history g.N.Session.script g.N.Session.told g.N.Session.run g.N.Session.drop g.N.Session.outside
    c.args.recording.now c.requires.history c.requires.round
    (did g (goal.at.returns-clause-history g c).After-turns_are_recorded) c.requires.some)

pub returns-clause-broken : goal.returns-clause-broken
returns-clause-broken g c =
    let failed = did g (goal.at.returns-clause-broken g c).After-turns_are_recorded in
    subst (HasBroken g.N.Session.told c.args.recording.now) (sym c.push_fault.ensures)
    (record {
      is = refl;
      script = refl;
      stopped = refl;
      failed = failed.failed;
      now = ap (λ (s : State). s.reactor.now) failed.goes.state;
      spent = failed.goes.spent;
    })
