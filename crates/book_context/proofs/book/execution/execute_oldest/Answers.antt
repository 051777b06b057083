use Rattle.std.proofs.Common.{ap}
use Rattle.book_context.proofs.ExecutionLemmas.{can_execute, executed_faults, executed_gone, executed_half, executed_hands, executed_history, has_room, may}
use Rattle.book_context.specs.Steps.{MayExecute}
use Rattle.book_context.specs.Oldest.{with_ready}
use Rattle.book_context.proofs.book.execution.execute_oldest.Given as given
use Rattle.book_context.proofs.book.execution.execute_oldest.Goals as goal
use Rattle.book_context.proofs.book.execution.execute_oldest.Goals.{After-executions_are_recorded}

can : (g : given.Over) (c : After-executions_are_recorded g) →
    MayExecute g.N.Session.told (with_ready (c.args.op, c.args.code, c.args.size) c.args.recording.now) c.args.op
    c.args.code c.args.size c.args.recording.now.ready
can g c =
    may g.H.CompletionHandler.marks g.N.Session.script g.N.Session.told g.N.Session.run g.N.Session.drop
    g.N.Session.outside c.args.recording.now c.args.op c.args.code c.args.size c.args.hands.now
    c.requires.history c.requires.hands c.requires.going c.requires.round c.executions_are_recorded.ensures.next

pub execute-requires-clause-can : goal.execute-requires-clause-can
execute-requires-clause-can g c =
    can_execute g.H.CompletionHandler.marks g.N.Session.script g.N.Session.told g.N.Session.run g.N.Session.drop
    g.N.Session.outside c.args.recording.now c.args.op c.args.code c.args.size c.args.hands.now
    c.requires.history c.requires.hands c.requires.going c.requires.round
    (can g (goal.at.execute-requires-clause-can g c).After-executions_are_recorded)

pub execute-requires-clause-room : goal.execute-requires-clause-room
execute-requires-clause-room g c =
    has_room g.H.CompletionHandler.marks g.N.Session.script g.N.Session.told g.N.Session.run g.N.Session.drop
    g.N.Session.outside c.args.recording.now c.args.op c.args.code c.args.size c.args.hands.now
    c.requires.history c.requires.hands c.requires.going c.requires.round
    (can g (goal.at.execute-requires-clause-room g c).After-executions_are_recorded)

pub returns-clause-history : goal.returns-clause-history
returns-clause-history g c =
    executed_history g.H.CompletionHandler.marks g.N.Session.script g.N.Session.told g.N.Session.run g.N.Session.drop
    g.N.Session.outside c.args.recording.now c.args.op c.args.code c.args.size c.args.hands.now
    c.requires.history c.requires.hands c.requires.going c.requires.round c.executions_are_recorded.ensures.executions
    c.execute.new.self c.execute.new.hands c.execute.ensures

pub returns-clause-hands : goal.returns-clause-hands
returns-clause-hands g c =
    executed_hands g.H.CompletionHandler.marks g.N.Session.script g.N.Session.told g.N.Session.run g.N.Session.drop
    g.N.Session.outside c.args.recording.now c.args.op c.args.code c.args.size c.args.hands.now
    c.requires.history c.requires.hands c.requires.going c.requires.round c.executions_are_recorded.ensures.executions
    c.execute.new.self c.execute.new.hands c.execute.ensures

pub returns-clause-script : goal.returns-clause-script
returns-clause-script g c = ap (λ r. r.script) c.execute.ensures.is

pub returns-clause-half : goal.returns-clause-half
returns-clause-half g c =
    executed_half g.H.CompletionHandler.marks g.N.Session.script g.N.Session.told g.N.Session.run g.N.Session.drop
    g.N.Session.outside c.args.recording.now c.args.op c.args.code c.args.size c.args.hands.now
    c.requires.history c.requires.hands c.requires.going c.requires.round c.executions_are_recorded.ensures.executions
    c.execute.new.self c.execute.new.hands c.execute.ensures

pub returns-clause-faults : goal.returns-clause-faults
returns-clause-faults g c =
    executed_faults g.H.CompletionHandler.marks g.N.Session.script g.N.Session.told g.N.Session.run g.N.Session.drop
    g.N.Session.outside c.args.recording.now c.args.op c.args.code c.args.size c.args.hands.now
    c.requires.history c.requires.hands c.requires.going c.requires.round c.executions_are_recorded.ensures.executions
    c.execute.new.self c.execute.new.hands c.execute.ensures

pub returns-clause-gone : goal.returns-clause-gone
returns-clause-gone g c =
    executed_gone g.H.CompletionHandler.marks g.N.Session.script g.N.Session.told g.N.Session.run g.N.Session.drop
    g.N.Session.outside c.args.recording.now c.args.op c.args.code c.args.size c.args.hands.now
    c.requires.history c.requires.hands c.requires.going c.requires.round c.executions_are_recorded.ensures.executions
    c.execute.new.self c.execute.new.hands c.execute.ensures
