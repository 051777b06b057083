use Rattle.std.proofs.Common.{◌∙◌, ◌+◌, ap, arith}
use Rattle.history_rules.specs.Legal.{state_of}
use Rattle.execution_laws.specs.LetGo.{let_go_marks}
use Rattle.proactor_core.specs.Proactor.{tells}
use Rattle.session_run.specs.RackMarks.{drop_mark}
use Rattle.session_run.proofs.LetGoLemmas.{all_told}
use Rattle.op_future.proofs.session.task_session.Goals as goal

pub returns-in-Ok-clause-let_go : goal.returns-in-Ok-clause-let_go
returns-in-Ok-clause-let_go g c =
    ap (λ n. n + c.discard_all-rest.result) c.in-Ok.ensures.let_go
    ∙ (ap (λ n. let_go_marks c.args.script.now (tells (g.X.Reactor.told c.args.reactor))
    (drop_mark g.H.CompletionHandler.marks c.args.rack) c.in-Ok.report.history.events + n) c.discard_all-rest.ensures.marks
    ∙ all_told g.H.CompletionHandler.marks c.args.script.now
    (state_of c.args.script.now (tells (g.X.Reactor.told c.args.reactor)) c.in-Ok.report.history.events) c.args.rack c.run_unlocked-ran.new.rack
    c.in-Ok.ensures.taken.count c.requires.count c.in-Ok.ensures.taken.left)
