use Rattle.std.proofs.Common.{sym, ap, subst, ◌∙◌, arith}
use Rattle.book_context.specs.Book.{KeepsHistory}
use Rattle.book_context.specs.InTurn.{HasOnlyTold, IsInTurn}
use Rattle.book_context.specs.Recorded.{recorded_half}
use Rattle.book_context.specs.TurnSteps as steps
use Rattle.reactor_turns.proofs.TurnedLemmas.{still_works, turned-none}
use Rattle.book_context.proofs.ToldLemmas.{done_history, done_told, done_turn, step}
use Rattle.history_rules.specs.Requests.{slot_in}
use Rattle.session_script.specs.Script.{act_of}
use Rattle.book_context.proofs.book.telling.tell_next.Given as given
use Rattle.book_context.proofs.book.telling.tell_next.Goals as goal
use Rattle.book_context.proofs.book.telling.tell_next.Goals.{After-push_done-arg-1}

told_one : (g : given.Over) (c : After-push_done-arg-1 g) →
    steps.CompletionIsRecorded g.N.Session.told c.args.recording.now c.in-Some.op c.in-Some.code c.in-Some.size
told_one g c =
    step g.X.Reactor.state g.X.Reactor.told g.N.Session.told g.N.Session.script g.N.Session.run g.N.Session.drop
    g.N.Session.outside c.args.recording.now c.args.proactor.now c.requires.history c.requires.turn
    c.in-Some.op c.in-Some.code c.in-Some.size c.turns_are_recorded.ensures.completions c.in-Some.ensures.allowed

pub push_done-requires-clause-spare : goal.push_done-requires-clause-spare
push_done-requires-clause-spare g c = (told_one g c).goes.room

pub push_done-requires-clause-ready : goal.push_done-requires-clause-ready
push_done-requires-clause-ready g c = (told_one g c).place

pub returns-in-Some-clause-history : goal.returns-in-Some-clause-history
returns-in-Some-clause-history g c =
    subst (KeepsHistory g.N.Session.script g.N.Session.told g.N.Session.run g.N.Session.drop g.N.Session.outside)
    (sym c.push_done.ensures)
    (done_history g.X.Reactor.state g.X.Reactor.told g.N.Session.told g.N.Session.script g.N.Session.run
    g.N.Session.drop g.N.Session.outside c.args.recording.now c.args.proactor.now c.requires.history c.requires.turn
    c.in-Some.op c.in-Some.code c.in-Some.size
    (told_one g (goal.at.returns-in-Some-clause-history g c).After-push_done-arg-1))

pub returns-in-Some-clause-turn : goal.returns-in-Some-clause-turn
returns-in-Some-clause-turn g c =
    subst (λ r. IsInTurn g.X.Reactor.state g.X.Reactor.told g.N.Session.told r c.next_due.new.self) (sym c.push_done.ensures)
    (done_turn g.X.Reactor.state g.X.Reactor.told g.N.Session.told g.N.Session.script g.N.Session.run g.N.Session.drop
    g.N.Session.outside c.args.recording.now c.args.proactor.now c.requires.history c.requires.turn c.in-Some.op
    c.in-Some.code c.in-Some.size (told_one g (goal.at.returns-in-Some-clause-turn g c).After-push_done-arg-1)
    c.next_due.new.self (ap (λ p. p.script) c.in-Some.ensures.others) (ap (λ p. p.reactor) c.in-Some.ensures.others)
    (ap (λ p. p.tables.failed) c.in-Some.ensures.others
    ∙ still_works (slot_in (act_of c.args.proactor.now.script c.in-Some.op)) c.in-Some.op
    (record c.args.proactor.now.tables { due = c.next_due.new.self.tables.due })) c.next_due.ensures.sound
    c.in-Some.ensures.follows)

pub returns-in-Some-clause-told : goal.returns-in-Some-clause-told
returns-in-Some-clause-told g c =
    subst (HasOnlyTold g.N.Session.told c.args.recording.now) (sym c.push_done.ensures)
    (done_told g.X.Reactor.state g.X.Reactor.told g.N.Session.told g.N.Session.script g.N.Session.run g.N.Session.drop
    g.N.Session.outside c.args.recording.now c.args.proactor.now c.requires.history c.requires.turn c.in-Some.op
    c.in-Some.code c.in-Some.size (told_one g (goal.at.returns-in-Some-clause-told g c).After-push_done-arg-1))

pub returns-in-Some-clause-fewer : goal.returns-in-Some-clause-fewer
returns-in-Some-clause-fewer g c _ =
    let room = (told_one g (goal.at.returns-in-Some-clause-fewer g c).After-push_done-arg-1).goes.room in
    let less = ap (λ r. r.spare) c.push_done.ensures in
    omega (arith, room, less)

pub returns-in-None-clause-whole : goal.returns-in-None-clause-whole
returns-in-None-clause-whole g c _ =
    turned-none g.X.Reactor.state g.X.Reactor.told (recorded_half g.N.Session.told c.args.recording.now)
    c.args.proactor.now c.next_due.new.self c.requires.turn.telling
    c.in-None.ensures.unchanged c.in-None.ensures.none c.in-None.ensures.over c.in-None.ensures.drained
